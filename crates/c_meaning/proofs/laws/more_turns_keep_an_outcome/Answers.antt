-- What is left to show of `more_turns_keep_an_outcome`.
use Rattle.c_meaning.proofs.MoreTurnLaws.{outcome_kept}
use Rattle.c_meaning.proofs.laws.more_turns_keep_an_outcome.Goals as goal

pub returns : goal.returns
returns c = outcome_kept
