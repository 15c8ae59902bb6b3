use Rattle.std.proofs.Common.{◌≡◌, ℕ, ◌∷◌, ◌++◌, map, drop}
use Rattle.flow_graph.proofs.goals.target_blocks.Given as goal

abbrev pub invariant-loop-target : goal.invariant-loop-target
invariant-loop-target l = l.numbers.items ++ map (λ (target : ℕ × ℕ). target.1) (drop l.target-index l.targets) ≡ l.fn.others ∷ map (λ (target : ℕ × ℕ). target.1) l.targets
