use Rattle.std.proofs.Common.{◌≡◌, length}
use Rattle.alf_ops.specs.Histories.{is_running}
use Rattle.alf_ops.proofs.loads.runs.Given as goal

abbrev pub invariant-loop-event : goal.invariant-loop-event
invariant-loop-event l = is_running l.rest l.function ≡ is_running l.history l.function

abbrev pub decreases-loop-event : goal.decreases-loop-event
decreases-loop-event l = length l.rest
