-- What is left to show of `constants_are_words`.
use Rattle.lowering_checks.proofs.ConstantLaws.{worth_fits}
use Rattle.lowering_checks.proofs.term_laws.constants_are_words.Goals as goal

pub returns : goal.returns
returns c = worth_fits
