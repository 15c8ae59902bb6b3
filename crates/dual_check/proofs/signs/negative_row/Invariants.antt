use Rattle.std.proofs.Common.{◌≡◌, None}
use Rattle.ipet_rows.specs.Firsts.{first}
use Rattle.ipet_rows.specs.Verdicts.{sign_at}
use Rattle.dual_check.proofs.signs.negative_row.Given as goal

abbrev pub invariant-loop-row : goal.invariant-loop-row
invariant-loop-row l = first l.row (sign_at l.rows.program l.multipliers) ≡ None
