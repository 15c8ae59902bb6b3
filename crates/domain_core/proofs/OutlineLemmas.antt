-- On the way to the laws of outline.
--   scopes_nested       of two scopes that hold a node, parents lead from one to the other
--   forward_rises       an edge to a node goes to a greater rank, unless it is a back edge
--   leads_compare   of two scopes to which parents lead from one, they lead from one to the other
use Rattle.std.proofs.Common.{◌≡◌, ◌<◌, ℕ, List, ◌⊎◌, inl, inr, Some, length, get_or, sym, ◌∙◌, subst, arith}
use Rattle.std.proofs.lemmas.Bool.{cases_lt}
use Rattle.domain_core.specs.declared.outline.ScopeRow.{ScopeRow}
use Rattle.domain_core.specs.Reducible.{IsEdge, Dominates, IsForwardEdge}
use Rattle.domain_core.specs.Outlines.{Shape, LeadsTo, here, up, Holds, IsOutline}
use Rattle.domain_core.specs.OutlineLaws.{header_dominates}

-- ---- parents

module _ (scopes : List ScopeRow) where
  -- of two scopes to which parents lead from one, they lead from one to the other
  pub leads_compare : (s t r : ℕ) → LeadsTo scopes s r → LeadsTo scopes t r → LeadsTo scopes t s ⊎ LeadsTo scopes s t
  leads_compare s t r here other = inl other
  leads_compare s t r (up {s = x} {p = p} e way) here = inr (up e way)
  leads_compare s t r (up {s = x} {p = p} e way) (up {s = y} {p = q} f other) =
      let same : q ≡ p = (let both : Some q ≡ Some p = sym f ∙ e in cc) in leads_compare s t p way (subst (λ (n : ℕ). LeadsTo scopes t n) same other)

module _ (o : Shape) (ok : IsOutline o) where
  -- of two scopes that hold a node, parents lead from one to the other
  pub scopes_nested : (s t n : ℕ) → Holds o s n → Holds o t n → LeadsTo o.scopes t s ⊎ LeadsTo o.scopes s t
  scopes_nested s t n in_s in_t = leads_compare o.scopes s t (get_or o.own n 0) in_s in_t

  -- an edge to a node goes to a greater rank, unless it is a back edge
  pub forward_rises : (u v : ℕ) → IsForwardEdge (IsEdge o.edges) u v → v < length o.own
      → get_or o.ranks u 0 < get_or o.ranks v 0
  forward_rises u v (edge, forward) low =
      elim (cases_lt (get_or o.ranks u 0) (get_or o.ranks v 0)) [
        | inl rise ↦ rise
        | inr other ↦
            let loop = ok.rises u v edge low (omega arith) in
            absurd (forward (subst (λ (h : ℕ). Dominates (IsEdge o.edges) h u) loop.2 (header_dominates o ok loop.0 u (ok.edges_within u v edge).0 loop.4)))
      ]
