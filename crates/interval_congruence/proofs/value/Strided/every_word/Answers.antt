use Rattle.strided_rules.specs.PlacedLaws.{every_placed}
use Rattle.interval_congruence.proofs.value.Strided.every_word.Goals as goal

pub of-requires-clause-placed : goal.of-requires-clause-placed
of-requires-clause-placed c = rw c.whole.ensures (every_placed c.args.size c.requires).placed
