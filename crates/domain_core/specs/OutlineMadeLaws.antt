-- The outline of a graph keeps what every outline keeps.
--   holds_is      a scope holds, by parents, only nodes of its own
--   is_held       and all of them
--   outline_kept  so the outline keeps what every outline keeps
use Rattle.std.proofs.Common.{◌≡◌, ◌≢◌, ◌<◌, ◌≤◌, ◌-◌, ◌^◌, ℕ, zero, suc, List, [], ◌∷◌, ◌++◌, ◌⊎◌, inl, inr, Option, Some, None, AllPairs, length, get_or, refl, ap, sym, ◌∙◌, subst, arith}
use Rattle.std.proofs.lemmas.Bool.{cases_lt}
use Rattle.std.proofs.lemmas.List.{append-nil}
use Rattle.domain_core.specs.declared.scope_kind.ScopeKind.{ScopeKind}
use Rattle.domain_core.specs.declared.scope_kind.ScopeKind.TheVariants.{Call, Loop}
use Rattle.domain_core.specs.Reducible.{Dominates, IsEdge}
use Rattle.graph_walks.specs.Walks.{stays}
use Rattle.graph_walks.specs.ListLaws.{same_or_not, contains_cases}
use Rattle.lists.specs.MemberLaws.{no_member}
use Rattle.domain_core.specs.Scopes.{Plan, leads, path_at, IsPlan, InScope}
use Rattle.domain_core.specs.ScopeLaws.{scope_entered, scope_first, header_dominates, header_low, header_held, dominator_lower}
use Rattle.domain_core.specs.Outlines.{Shape, LeadsTo, here, up, Holds, header_of, kind_of, parent_of, IsOutline}
use Rattle.domain_core.specs.OutlineOf.{scope_holds, scope_inside, IsParent, IsOutlineOf}

module _ (plan : Plan) (ok : IsPlan plan) (o : Shape) (d : IsOutlineOf plan o) where
  -- parents lead to larger scopes
  lead_inside : (t r : ℕ) → LeadsTo o.scopes t r → r < length o.scopes
      → scope_inside plan o.scopes r t × (t < length o.scopes)
  lead_inside t r here low = (λ n n_low held. held, low)
  lead_inside t r (up {s = s} {p = p} e way) low =
      let parent : IsParent plan o.scopes s (Some p) = subst (λ (x : Option ℕ). IsParent plan o.scopes s x) e (d.parents s low) in
      let rest = lead_inside t p way parent.0 in
      (λ n n_low held. rest.0 n n_low (parent.2 n n_low held), rest.1)

  -- a scope holds, by parents, only nodes of its own
  pub holds_is : (t n : ℕ) → n < length plan.places → Holds o t n
      → scope_holds plan o.scopes t n × (t < length o.scopes)
  holds_is t n low held = let own = d.own n low in let more = lead_inside t (get_or o.own n 0) held own.0 in (more.0 n low own.1.holds, more.1)

  -- two scopes have two headers
  headers_apart : (s t : ℕ) → s < length o.scopes → t < length o.scopes → s ≢ t
      → header_of o.scopes s ≢ header_of o.scopes t
  headers_apart s t s_low t_low other e =
      elim (cases_lt s t) [ inl before ↦ let a = d.ascend s t before t_low in absurd (omega arith) | inr after ↦ let b = d.ascend t s (omega arith) s_low in absurd (omega arith) ]

  -- to each larger scope parents lead
  inside_lead : (k t r : ℕ) → get_or o.ranks (header_of o.scopes r) 0 < k → t < length o.scopes → r < length o.scopes
      → scope_inside plan o.scopes r t → LeadsTo o.scopes t r
  inside_lead zero t r few t_low r_low within = absurd (omega arith)
  inside_lead (suc k) t r few t_low r_low within =
      elim (same_or_not t r) [
        | inl e ↦ subst (λ (n : ℕ). LeadsTo o.scopes n r) (sym e) here
        | inr other ↦ by_parent (parent_of o.scopes r) refl other (λ p lower p_low inside_p. inside_lead k t p lower t_low p_low inside_p)
      ]
    where
      by_parent : (parent : Option ℕ) → parent_of o.scopes r ≡ parent → t ≢ r
          → ((p : ℕ) → get_or o.ranks (header_of o.scopes p) 0 < k → p < length o.scopes → scope_inside plan o.scopes p t → LeadsTo o.scopes t p) → LeadsTo o.scopes t r
      by_parent None e other again = let none : IsParent plan o.scopes r None = subst (λ (x : Option ℕ). IsParent plan o.scopes r x) e (d.parents r r_low) in absurd (none t t_low other within)
      by_parent (Some p) e other again =
          let parent : IsParent plan o.scopes r (Some p) = subst (λ (x : Option ℕ). IsParent plan o.scopes r x) e (d.parents r r_low) in
          let g = header_of o.scopes r in
          let h = header_of o.scopes p in
          let g_low = header_low plan ok (kind_of o.scopes r) g (d.headers r r_low) in
          let in_p = parent.2 g g_low (header_held plan ok (kind_of o.scopes r) g) in
          let above = header_dominates plan ok (kind_of o.scopes p) h g (d.headers p parent.0) g_low in_p in
          let lower = dominator_lower (leads plan) (length plan.places) o.ranks d.ranked (λ u v edge. (ok.within u v edge).0) ok.reached (suc (get_or o.ranks g 0)) h g (omega arith) g_low (headers_apart p r parent.0 r_low parent.1) above in
          up e (again p (omega arith) parent.0 (parent.3 t t_low other within))

  -- and it holds all of them
  pub is_held : (t n : ℕ) → n < length plan.places → t < length o.scopes → scope_holds plan o.scopes t n → Holds o t n
  is_held t n low t_low held =
      let own = d.own n low in
      inside_lead (suc (get_or o.ranks (header_of o.scopes (get_or o.own n 0)) 0)) t (get_or o.own n 0) (omega arith) t_low own.0
      (own.1.least (kind_of o.scopes t) (header_of o.scopes t) (d.headers t t_low) held)

  -- scope 0 is the root's
  root_scope : (0 < length o.scopes) × (header_of o.scopes 0 ≡ 0) × (kind_of o.scopes 0 ≡ Call)
  root_scope =
      let root = d.all Call 0 (ok.some, ok.first_block) in
      elim (same_or_not root.0 0) [
        | inl e ↦ (subst (λ (n : ℕ). n < length o.scopes) e root.1, subst (λ (n : ℕ). header_of o.scopes n ≡ 0) e root.3, subst (λ (n : ℕ). kind_of o.scopes n ≡ Call) e root.2)
        | inr other ↦ absurd (let before = d.ascend 0 root.0 (omega arith) root.1 in let zero_there = root.3 in omega arith)
      ]

  -- and all others lie in it
  inside_root : (s : ℕ) → scope_inside plan o.scopes s 0
  inside_root s n low held =
      let all : InScope plan Call 0 n = (path_at plan n, sym (append-nil (path_at plan n)) ∙ ap (λ (start : List ℕ). path_at plan n ++ start) (sym ok.first_path)) in
      subst (λ (kind : ScopeKind). InScope plan kind (header_of o.scopes 0) n) (sym root_scope.2) (subst (λ (h : ℕ). InScope plan Call h n) (sym root_scope.1) all)

  -- the outline keeps what every outline keeps
  pub outline_kept : ((u v : ℕ) → leads plan u v → Dominates (leads plan) v u ⊎ (Dominates (leads plan) v u → ⊥))
      → length o.own < 2 ^ 32 - 1 → length o.edges < 2 ^ 32 - 1 → length o.scopes < 2 ^ 32 - 1
      → AllPairs (λ e f. e ≢ f) o.edges → IsOutline o
  outline_kept decided few_nodes few_edges few_scopes once = record {
    some = (let e = d.one_each in let s = ok.some in omega arith);
    few_nodes = few_nodes;
    few_edges = few_edges;
    few_scopes = few_scopes;
    a_rank_each = d.ranked.one_each ∙ sym d.one_each;
    edges_within = λ u v edge. let low = ok.within u v (in_plan u v edge) in let e = d.one_each in (let a = low.0 in omega arith, let b = low.1 in omega arith);
    edges_once = once;
    scopes_within = λ n low. (d.own n (node_low n low)).0;
    ranks_once = λ m n before low. d.ranked.once m n before (node_low n low);
    headers_within = λ s low. let h = header_low plan ok (kind_of o.scopes s) (header_of o.scopes s) (d.headers s low) in let e = d.one_each in omega arith;
    headers_held = λ s low. is_held s (header_of o.scopes s) (header_low plan ok (kind_of o.scopes s) (header_of o.scopes s) (d.headers s low)) low (header_held plan ok (kind_of o.scopes s) (header_of o.scopes s));
    parents_within = λ s p low e. (parent_is s p low e).0;
    parents_lead = λ s low. inside_lead (suc (get_or o.ranks (header_of o.scopes s) 0)) 0 s (omega arith) root_scope.0 low (inside_root s);
    first_scope = (root_scope.1, root_scope.2, no_parent (parent_of o.scopes 0) refl);
    first_alone = λ s held. first_alone s (holds_is s 0 ok.some held);
    entered = λ u v t edge low t_low held. elim (same_or_not v (header_of o.scopes t)) [
      | inl e ↦ inl e
      | inr other ↦
          let e = in_plan u v edge in
          let inside_t = (holds_is t v (node_low v low) held).0 in
          inr (is_held t u (ok.within u v e).0 t_low (scope_entered plan ok (kind_of o.scopes t) (header_of o.scopes t) (d.headers t t_low) u v e (node_low v low) other inside_t))
    ];
    rises = λ u v edge low no_rise. rises u v (in_plan u v edge) (node_low v low) no_rise (decided u v (in_plan u v edge));
  }
    where
      in_plan : (u v : ℕ) → IsEdge o.edges u v → leads plan u v
      in_plan u v edge = subst (λ (edges : List (ℕ × ℕ)). IsEdge edges u v) d.edges edge

      node_low : (n : ℕ) → n < length o.own → n < length plan.places
      node_low n low = let e = d.one_each in omega arith

      parent_is : (s p : ℕ) → s < length o.scopes → parent_of o.scopes s ≡ Some p → IsParent plan o.scopes s (Some p)
      parent_is s p low e = subst (λ (x : Option ℕ). IsParent plan o.scopes s x) e (d.parents s low)

      first_alone : (s : ℕ) → scope_holds plan o.scopes s 0 × (s < length o.scopes) → s ≡ 0
      first_alone s held =
          let is = scope_first plan ok (kind_of o.scopes s) (header_of o.scopes s) (d.headers s held.1) held.0 in
          elim (same_or_not s 0) [ inl e ↦ e | inr other ↦ absurd (headers_apart s 0 held.1 root_scope.0 other (is ∙ sym root_scope.1)) ]

      no_parent : (parent : Option ℕ) → parent_of o.scopes 0 ≡ parent → parent_of o.scopes 0 ≡ None
      no_parent None e = e
      no_parent (Some p) e =
          let parent = parent_is 0 p root_scope.0 e in
          let first : scope_holds plan o.scopes 0 0 = subst (λ (h : ℕ). InScope plan (kind_of o.scopes 0) (header_of o.scopes 0) h) root_scope.1 (header_held plan ok (kind_of o.scopes 0) (header_of o.scopes 0)) in
          absurd (parent.1 (first_alone p (parent.2 0 ok.some first, parent.0)))

      rises : (u v : ℕ) → leads plan u v → v < length plan.places → get_or o.ranks v 0 ≤ get_or o.ranks u 0
          → Dominates (leads plan) v u ⊎ (Dominates (leads plan) v u → ⊥)
          → (t : ℕ) × (t < length o.scopes) × (header_of o.scopes t ≡ v) × (kind_of o.scopes t ≡ Loop) × Holds o t u
      rises u v edge low no_rise (inr forward) = absurd (let rise = d.ranked.ready v low u (edge, forward) in omega arith)
      rises u v edge low no_rise (inl dominates) =
          let loop = d.all Loop v (u, (edge, dominates)) in
          let body : InScope plan Loop v u = elim (same_or_not u v) [
            | inl e ↦ (u, inl e, inl refl)
            | inr other ↦ (
              u,
              inr (record {
                source = u;
                way = u ∷ [];
                back = (edge, dominates);
                walk = stays;
                avoids = λ there. elim (contains_cases u [] v there) [ inl e ↦ other (sym e) | inr none ↦ no_member v none ];
              }),
              inl refl,
            )
          ] in
          let in_loop : scope_holds plan o.scopes loop.0 u = subst (λ (kind : ScopeKind). InScope plan kind (header_of o.scopes loop.0) u) (sym loop.2) (subst (λ (h : ℕ). InScope plan Loop h u) (sym loop.3) body) in
          (loop.0, loop.1, loop.3, loop.2, is_held loop.0 u (ok.within u v edge).0 loop.1 in_loop)
