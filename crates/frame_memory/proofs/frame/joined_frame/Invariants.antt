-- What `joined_frame` keeps: below the place the slots are those of the join.
use Rattle.std.proofs.Common.{◌-◌}
use Rattle.frame_memory.proofs.FrameSteps.{JoinedUpTo}
use Rattle.frame_memory.proofs.frame.joined_frame.Given as goal

abbrev pub invariant-loop-place : goal.invariant-loop-place
invariant-loop-place l = JoinedUpTo l.a l.b l.slots l.place

abbrev pub decreases-loop-place : goal.decreases-loop-place
decreases-loop-place l = l.count - l.place
