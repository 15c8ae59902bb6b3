use Rattle.std.proofs.Common.{◌≤◌, ℕ, ◌<◌, ◌≡◌, false, Some, slice_get}
use Rattle.cost_table.proofs.taken.any_marked.Given as goal

abbrev pub invariant-loop-place : goal.invariant-loop-place
invariant-loop-place l = (l.from ≤ l.place) × (l.place ≤ l.to) × ((k : ℕ) → l.from ≤ k → k < l.place → slice_get l.marks k ≡ Some false)
