-- With the terms that are left, the lists have all of the row.
use Rattle.std.proofs.Common.{length}
use Rattle.dual_check.proofs.Turned.{IsPut}
use Rattle.dual_check.proofs.by_columns.push_row.Given as goal

abbrev pub invariant-loop-term : goal.invariant-loop-term
invariant-loop-term l = IsPut (length l.initial.lists) l.row l.initial.lists l.lists l.rest l.terms

abbrev pub decreases-loop-term : goal.decreases-loop-term
decreases-loop-term l = length l.rest
