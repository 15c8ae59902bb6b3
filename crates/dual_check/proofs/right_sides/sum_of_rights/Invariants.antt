use Rattle.std.proofs.Common.{◌≡◌, None}
use Rattle.ipet_rows.specs.Sums.{total}
use Rattle.ipet_rows.specs.Duals.{right_part}
use Rattle.ipet_rows.specs.Verdicts.{first_wide}
use Rattle.dual_check.proofs.right_sides.sum_of_rights.Given as goal

abbrev pub invariant-loop-row : goal.invariant-loop-row
invariant-loop-row l = record {
  sum : l.sum ≡ total l.row (right_part l.rows.program l.multipliers);
  narrow : first_wide l.row (right_part l.rows.program l.multipliers) ≡ None;
}
