use Rattle.std.proofs.Common.{◌≡◌, ◌<◌, ◌+◌, ◌*◌, ◌/◌, ◌^◌, ◌++◌}
use Rattle.cost_table.specs.Inputs.{rows_from}
use Rattle.cost_table.proofs.row_list.add_rows.Given as goal

abbrev pub invariant-loop-left : goal.invariant-loop-left
invariant-loop-left l = (l.row.offset + l.left * (l.row.size / 8) < 2 ^ 32) × (l.rows.items ++ rows_from l.row l.left ≡ l.initial.rows.items ++ rows_from l.initial.row l.initial.left)

abbrev pub decreases-loop-left : goal.decreases-loop-left
decreases-loop-left l = l.left
