use Rattle.std.proofs.Common.{◌≡◌, None}
use Rattle.ipet_rows.specs.Firsts.{first}
use Rattle.ipet_rows.specs.Verdicts.{column_at}
use Rattle.dual_check.proofs.columns.wrong_column.Given as goal

abbrev pub invariant-loop-column : goal.invariant-loop-column
invariant-loop-column l = first l.column (column_at l.rows.program l.scale l.multipliers) ≡ None
