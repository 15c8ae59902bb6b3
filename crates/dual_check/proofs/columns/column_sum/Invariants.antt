use Rattle.std.proofs.Common.{◌≡◌, length, pos}
use Rattle.ipet_rows.specs.Programs.{IsWithin}
use Rattle.ipet_rows.specs.Sparse.{summed_terms}
use Rattle.dual_check.proofs.columns.column_sum.Given as goal

abbrev pub invariant-loop-term : goal.invariant-loop-term
invariant-loop-term l = record {
  within : IsWithin (length l.multipliers) l.rest;
  same : summed_terms l.multipliers l.rest l.sum ≡ summed_terms l.multipliers l.terms (pos 0);
}

abbrev pub decreases-loop-term : goal.decreases-loop-term
decreases-loop-term l = length l.rest
