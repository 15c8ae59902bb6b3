use Rattle.strided_rules.specs.PlacedLaws.{norm_placed}
use Rattle.interval_congruence.proofs.images.normal.Goals as goal

pub of-requires-clause-placed : goal.of-requires-clause-placed
of-requires-clause-placed c = rw c.normed.ensures (norm_placed c.args.size c.args.p.now c.requires.size.least c.requires.p.progression)
