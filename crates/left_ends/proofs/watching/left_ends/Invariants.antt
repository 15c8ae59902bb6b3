-- What each turn keeps.
use Rattle.memory_model.specs.SeenOrders.{parts_order}
use Rattle.abstract_exec.specs.TurnLaws.{left_to_do}
use Rattle.abstract_step.specs.Steppers.{stepped_by}
use Rattle.left_ends.specs.Silence.{silent_order, silent_recording}
use Rattle.left_ends.specs.Watching.{IsWatchedFor}
use Rattle.left_ends.proofs.watching.left_ends.Given as goal

abbrev pub invariant-loop-pool : goal.invariant-loop-pool
invariant-loop-pool l = IsWatchedFor l.turns l.policy l.points.items l.checked l.graph l.rows l.outline l.ends l.pool

abbrev pub decreases-loop-pool : goal.decreases-loop-pool
decreases-loop-pool l = left_to_do stepped_by parts_order silent_order silent_recording l.turns l.pool
