use Rattle.std.proofs.Common.{◌≡◌, length}
use Rattle.alf_ops.specs.Histories.{origin}
use Rattle.alf_ops.proofs.loads.source.Given as goal

abbrev pub invariant-loop-event : goal.invariant-loop-event
invariant-loop-event l = origin l.owner l.frame l.rest l.byte ≡ origin l.owner l.frame l.history l.byte

abbrev pub decreases-loop-event : goal.decreases-loop-event
decreases-loop-event l = length l.rest
