use Rattle.std.proofs.Common.{◌≡◌, length}
use Rattle.ipet_rows.specs.Sums.{coefficient, IsAscending}
use Rattle.dual_check.proofs.row.coefficient_in.Given as goal

abbrev pub invariant-loop-term : goal.invariant-loop-term
invariant-loop-term l = record {
  ascending : IsAscending l.rest;
  same : coefficient l.rest l.column ≡ coefficient l.terms l.column;
}

abbrev pub decreases-loop-term : goal.decreases-loop-term
decreases-loop-term l = length l.rest
