-- With the rows that are left, the lists have all terms.
use Rattle.std.proofs.Common.{◌≡◌, ◌+◌, ◌++◌, ℕ, [], length, get_or}
use Rattle.ipet_rows.specs.Sparse.{column_terms}
use Rattle.dual_check.specs.Systems.{AreOf}
use Rattle.dual_check.proofs.by_columns.by_columns.Given as goal

abbrev pub invariant-loop-row : goal.invariant-loop-row
invariant-loop-row l = record {
  number : l.number + length l.rest ≡ length l.rows;
  count : length l.slots ≡ l.count;
  rows : AreOf l.count l.rest;
  put : (e : ℕ) → get_or l.slots e [] ++ column_terms e l.number l.rest ≡ column_terms e 0 l.rows;
}

abbrev pub decreases-loop-row : goal.decreases-loop-row
decreases-loop-row l = length l.rest
