-- What the loop of `least_ready` keeps.
use Rattle.std.proofs.Common.{◌≡◌, ◌<◌, ℕ, get_or}
use Rattle.graph_walks.specs.Tables.{rows_of}
use Rattle.scope_graph.specs.Ranking.{Into, IsDue}
use Rattle.scope_graph.proofs.ranks.least_ready.Given as goal

abbrev pub invariant-loop-node : goal.invariant-loop-node
invariant-loop-node l = (m : ℕ) → m < l.node → get_or l.ranks m 0 ≡ l.count → IsDue (Into (rows_of l.into)) (λ k. get_or l.ranks k 0) l.rank m → ⊥
