use Rattle.std.proofs.Common.{◌≡◌, ℕ, [], length, get_or}
use Rattle.dual_check.proofs.by_columns.no_terms.Given as goal

abbrev pub invariant-loop-column : goal.invariant-loop-column
invariant-loop-column l = record {
  count : length l.lists.items ≡ l.column;
  none : (e : ℕ) → get_or l.lists.items e [] ≡ [];
}
