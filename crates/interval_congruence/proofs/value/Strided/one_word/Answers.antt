use Rattle.progressions.specs.ProgressionLaws.{is_lone}
use Rattle.strided_rules.specs.PlacedLaws.{norm_placed}
use Rattle.interval_congruence.proofs.value.Strided.one_word.Goals as goal

pub of-requires-clause-placed : goal.of-requires-clause-placed
of-requires-clause-placed c = rw (c.normed.ensures, c.lone-lone.ensures) (norm_placed c.args.size _ c.requires.least (is_lone c.of_word.result))
