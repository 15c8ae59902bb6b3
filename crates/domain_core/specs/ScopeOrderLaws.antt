-- Of scopes with a common node, that whose header has the greater rank lies inside.
--   deeper_inside   of two scopes with a common node, the one of the later header lies in the other
--   latest_smallest the scope of the latest header is the smallest that holds the node
use Rattle.std.proofs.Common.{◌≢◌, ◌<◌, ◌≤◌, ℕ, suc, List, inl, inr, length, get_or, sym, subst, arith}
use Rattle.graph_walks.specs.ListLaws.{same_or_not}
use Rattle.domain_core.specs.declared.scope_kind.ScopeKind.{ScopeKind}
use Rattle.domain_core.specs.declared.scope_kind.ScopeKind.TheVariants.{Call, Loop}
use Rattle.domain_core.specs.Reducible.{IsRanking}
use Rattle.domain_core.specs.Scopes.{Plan, leads, IsPlan, InScope, IsHeader, IsInside, IsSmallest}
use Rattle.domain_core.specs.ScopeLaws.{nested_or_disjoint, header_dominates, header_low, header_held, one_kind, dominator_lower}

module _ (plan : Plan) (ok : IsPlan plan) (ranks : List ℕ) (ranked : IsRanking (leads plan) (length plan.places) ranks) where
  -- the header of a scope comes before each other node of it
  pub header_lower : (k : ScopeKind) (h n : ℕ) → IsHeader plan k h → n < length plan.places → h ≢ n → InScope plan k h n
      → get_or ranks h 0 < get_or ranks n 0
  header_lower k h n header low other held =
      dominator_lower (leads plan) (length plan.places) ranks ranked (λ u v edge. (ok.within u v edge).0) ok.reached (suc (get_or ranks n 0)) h n (omega arith) low other (header_dominates plan ok k h n header low held)

  -- of two scopes with a common node, the one of the later header lies in the other
  pub deeper_inside : (k l : ScopeKind) (h g x : ℕ) → IsHeader plan k h → IsHeader plan l g → g ≢ h
      → x < length plan.places → InScope plan k h x → InScope plan l g x
      → get_or ranks h 0 ≤ get_or ranks g 0 → IsInside plan l g k h
  deeper_inside k l h g x of_h of_g other x_low in_h in_g before =
      elim (nested_or_disjoint plan ok l k g h x of_g of_h other (header_low plan ok l g of_g) (header_low plan ok k h of_h) x_low in_g in_h) [
        | inl within ↦ within
        | inr around ↦
            let h_low = header_low plan ok k h of_h in
            let lower = header_lower l g h of_g h_low other (around h h_low (header_held plan ok k h)) in
            absurd (omega arith)
      ]

  -- two scopes of one header are one
  same_scope : (k l : ScopeKind) (h : ℕ) → IsHeader plan k h → IsHeader plan l h → IsInside plan k h l h
  same_scope Call Call h a b n low held = held
  same_scope Call Loop h a b n low held = absurd (one_kind plan ok h a b)
  same_scope Loop Call h a b n low held = absurd (one_kind plan ok h b a)
  same_scope Loop Loop h a b n low held = held

  -- the scope of the latest header is the smallest that holds the node
  pub latest_smallest : (k : ScopeKind) (h n : ℕ) → IsHeader plan k h → n < length plan.places → InScope plan k h n
      → ((l : ScopeKind) (g : ℕ) → IsHeader plan l g → InScope plan l g n → get_or ranks g 0 ≤ get_or ranks h 0) → IsSmallest plan k h n
  latest_smallest k h n header low held latest = record { header = header; holds = held; least = least }
    where
      least : (l : ScopeKind) (g : ℕ) → IsHeader plan l g → InScope plan l g n → IsInside plan k h l g
      least l g of_g in_g =
          elim (same_or_not g h) [
            | inl e ↦ subst (λ (i : ℕ). IsInside plan k h l i) (sym e) (same_scope k l h header (subst (λ (i : ℕ). IsHeader plan l i) e of_g))
            | inr other ↦ deeper_inside l k g h n of_g header (λ e. other (sym e)) low in_g held (latest l g of_g in_g)
          ]

  -- the later of two scopes that hold a node is inside the other, also where they are one
  pub later_inside : (k l : ScopeKind) (h g x : ℕ) → IsHeader plan k h → IsHeader plan l g → x < length plan.places
      → InScope plan k h x → InScope plan l g x
      → get_or ranks h 0 ≤ get_or ranks g 0 → IsInside plan l g k h
  later_inside k l h g x of_h of_g low in_h in_g before =
      elim (same_or_not g h) [
        | inl e ↦ subst (λ (i : ℕ). IsInside plan l i k h) (sym e) (same_scope l k h (subst (λ (i : ℕ). IsHeader plan l i) e of_g) of_h)
        | inr other ↦ deeper_inside k l h g x of_h of_g other low in_h in_g before
      ]
