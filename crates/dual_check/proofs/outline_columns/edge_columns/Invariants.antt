use Rattle.std.proofs.Common.{◌≡◌, map, take}
use Rattle.ipet_rows.specs.Columns.{edge_column}
use Rattle.dual_check.proofs.outline_columns.edge_columns.Given as goal

abbrev pub invariant-loop-number : goal.invariant-loop-number
invariant-loop-number l = l.out.items ≡ map edge_column (take l.number l.outline.edges)
