use Rattle.strided_rules.specs.PlacedLaws.{join_placed}
use Rattle.interval_congruence.proofs.value.Strided.join.Goals as goal

pub of-requires-clause-placed : goal.of-requires-clause-placed
of-requires-clause-placed c = rw (c.joined.ensures, c.size-size.ensures.value, c.numbers-first.ensures.value, c.numbers-second.ensures.value)
    (join_placed c.args.self.size _ _ c.numbers-first.ensures.stride.size.least c.numbers-first.ensures.stride.placed.progression c.numbers-second.ensures.stride.placed.progression)
