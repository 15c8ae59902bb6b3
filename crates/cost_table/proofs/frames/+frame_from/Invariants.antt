use Rattle.std.proofs.Common.{length}
use Rattle.cost_table.proofs.frames.+frame_from.Given as goal

abbrev pub decreases-frame_from : goal.decreases-frame_from
decreases-frame_from l = length l.frames.now
