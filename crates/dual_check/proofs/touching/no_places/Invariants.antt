use Rattle.std.proofs.Common.{◌≡◌, ◌+◌, ℕ, [], length, get_or}
use Rattle.dual_check.proofs.touching.no_places.Given as goal

abbrev pub invariant-loop-list : goal.invariant-loop-list
invariant-loop-list l = record {
  count : length l.lists.items ≡ l.list + 1;
  none : (n : ℕ) → get_or l.lists.items n [] ≡ [];
}
