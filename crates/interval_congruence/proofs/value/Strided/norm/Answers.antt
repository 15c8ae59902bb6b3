use Rattle.std.specs.Int.{w128}
use Rattle.std.proofs.lemmas.Int.{to_z-of_z}
use Rattle.strided_rules.specs.PlacedLaws.{norm_placed}
use Rattle.interval_congruence.proofs.value.Strided.norm.Goals as goal

pub of-requires-4-clause-placed : goal.of-requires-4-clause-placed
of-requires-4-clause-placed c =
    rw (c.normed.ensures, c.of.ensures, c.of-2.ensures, c.of-3.ensures, to_z-of_z w128 c.args.lo c.ranges.lo, to_z-of_z w128 c.args.hi c.ranges.hi, to_z-of_z w128 c.args.step c.ranges.step)
    (norm_placed c.args.size _ c.requires.size.least c.requires.progression)
