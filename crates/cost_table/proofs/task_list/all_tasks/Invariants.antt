use Rattle.std.proofs.Common.{◌≡◌, map, length}
use Rattle.toml.specs.View.{view}
use Rattle.cost_table.proofs.TaskEntries.{TasksSoFar}
use Rattle.cost_table.proofs.task_list.all_tasks.Given as goal

abbrev pub invariant-loop-place : goal.invariant-loop-place
invariant-loop-place l = (l.count ≡ length l.values) × TasksSoFar (map view l.values) l.place l.tasks.items
