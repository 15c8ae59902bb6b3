-- Edges read from their ends.
use Rattle.std.proofs.Common.{◌≡◌, ℕ, List, [], ◌∷◌, inl, inr, map, Contains, ap, subst, sym}
use Rattle.domain_core.specs.Reducible.{IsEdge}
use Rattle.graph_walks.specs.ListLaws.{contains_cases}
use Rattle.lists.specs.MemberLaws.{first_member, further_member, no_member}
use Rattle.scope_graph.specs.Assembled.{flip}

-- an edge that is turned is one of the others
pub flip_edge : (edges : List (ℕ × ℕ)) (u v : ℕ) → IsEdge (map flip edges) u v → IsEdge edges v u
flip_edge [] u v h = absurd (no_member (u, v) h)
flip_edge (edge ∷ edges) u v h = elim (contains_cases (flip edge) (map flip edges) (u, v) h) [
  | inl e ↦ let same : (v, u) ≡ edge = ap flip e in subst (λ (x : ℕ × ℕ). Contains (edge ∷ edges) x) (sym same) (first_member edge edges)
  | inr more ↦ further_member edge edges (v, u) (flip_edge edges u v more)
]

-- and the other way
pub edge_flip : (edges : List (ℕ × ℕ)) (u v : ℕ) → IsEdge edges u v → IsEdge (map flip edges) v u
edge_flip [] u v h = absurd (no_member (u, v) h)
edge_flip (edge ∷ edges) u v h = elim (contains_cases edge edges (u, v) h) [
  | inl e ↦ let same : (v, u) ≡ flip edge = ap flip e in subst (λ (x : ℕ × ℕ). Contains (flip edge ∷ map flip edges) x) (sym same) (first_member (flip edge) (map flip edges))
  | inr more ↦ further_member (flip edge) (map flip edges) (v, u) (edge_flip edges u v more)
]
