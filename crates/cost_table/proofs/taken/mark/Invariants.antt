use Rattle.std.proofs.Common.{◌≤◌}
use Rattle.cost_table.specs.Marks.{MarksIn}
use Rattle.cost_table.proofs.taken.mark.Given as goal

abbrev pub invariant-loop-place : goal.invariant-loop-place
invariant-loop-place l = (l.from ≤ l.place) × (l.place ≤ l.to) × MarksIn l.initial.marks l.marks l.from l.place
