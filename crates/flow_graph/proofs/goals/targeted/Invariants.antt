use Rattle.std.proofs.Common.{◌≡◌, ℕ, ◌++◌, map, drop, Some}
use Rattle.flow_graph.proofs.goals.targeted.Given as goal

abbrev pub invariant-loop-number : goal.invariant-loop-number
invariant-loop-number l = l.blocks.items ++ map (λ (n : ℕ). Some n) (drop l.number-index l.number-items) ≡ map (λ (n : ℕ). Some n) l.number-items
