use Rattle.progressions.specs.ProgressionLaws.{placed_small}
use Rattle.progressions.proofs.PartLemmas.{from_least_small, up_to_small}
use Rattle.progressions.proofs.ends.Progression.unsigned_pieces.Goals as goal

pub up_to-low-requires-clause-small : goal.up_to-low-requires-clause-small
up_to-low-requires-clause-small c = placed_small c.args.size c.args.self.now c.requires.least c.requires.most c.requires.placed

pub moved_part-requires-clause-small : goal.moved_part-requires-clause-small
moved_part-requires-clause-small c = rw c.up_to-low.ensures (up_to_small _ c.args.self.now c.requires.placed.progression
    (placed_small c.args.size c.args.self.now c.requires.least c.requires.most c.requires.placed))

pub moved_part-requires-2-clause-small : goal.moved_part-requires-2-clause-small
moved_part-requires-2-clause-small c = rw c.from_least-high.ensures (from_least_small _ c.args.self.now c.requires.placed.progression
    (placed_small c.args.size c.args.self.now c.requires.least c.requires.most c.requires.placed))

pub from_least-high-requires-clause-small : goal.from_least-high-requires-clause-small
from_least-high-requires-clause-small c = placed_small c.args.size c.args.self.now c.requires.least c.requires.most c.requires.placed

pub between-requires-clause-small : goal.between-requires-clause-small
between-requires-clause-small c = placed_small c.args.size c.args.self.now c.requires.least c.requires.most c.requires.placed
