-- A graph has one outline.
use Rattle.std.proofs.Common.{◌≡◌, ◌≢◌, ◌<◌, ℕ, zero, suc, List, [], ◌∷◌, map, length, get_or, Contains, slice_get, Option, None, Some, inl, inr, ◌⊎◌, refl, ap, sym, ◌∙◌, subst, arith}
use Rattle.std.specs.Prelude.{⊤}
use Rattle.std.proofs.lemmas.Bool.{cases_lt}
use Rattle.std.proofs.lemmas.List.{ext_get_or, get_or-map, length-map}
use Rattle.std.proofs.lemmas.Option.{slice_get_within, slice_get-get_or, get_or_from_slice_get}
use Rattle.lists.specs.MemberLaws.{contained, placed, no_member, first_member, further_member, first_or_further}
use Rattle.lists.specs.ImageLaws.{mapped, image}
use Rattle.graph_walks.specs.ListLaws.{same_or_not}
use Rattle.domain_core.specs.declared.scope_kind.ScopeKind.{ScopeKind}
use Rattle.domain_core.specs.declared.outline.ScopeRow.{ScopeRow}
use Rattle.domain_core.specs.Scopes.{Plan, leads, IsPlan, InScope, IsHeader, IsInside}
use Rattle.domain_core.specs.ScopeLaws.{header_dominates, header_low, header_held, dominator_lower}
use Rattle.domain_core.specs.Outlines.{Shape, no_scope, header_of, kind_of, parent_of}
use Rattle.domain_core.specs.OutlineOf.{scope_inside, IsParent, IsOutlineOf}
use Rattle.scope_graph.specs.Laws.{IsSameOutline}

-- ---- lists that ascend

-- a scope by its kind and its header
abbrev Mark : Type 0
Mark = ScopeKind × ℕ

abbrev mark : ScopeRow → Mark
mark row = (row.kind, row.header)

-- headers ascend
abbrev Ascends : List Mark → Type 0
Ascends [] = ⊤
Ascends (p ∷ ps) = ((q : Mark) → Contains ps q → p.1 < q.1) × Ascends ps

-- two lists that ascend and have the same members are the same
one_list : (ps qs : List Mark) → Ascends ps → Ascends qs → ((p : Mark) → Contains ps p → Contains qs p)
    → ((p : Mark) → Contains qs p → Contains ps p) → ps ≡ qs
one_list [] [] a b forth back = refl
one_list [] (q ∷ qs) a b forth back = no_member q (back q (first_member q qs))
one_list (p ∷ ps) [] a b forth back = no_member p (forth p (first_member p ps))
one_list (p ∷ ps) (q ∷ qs) a b forth back = ap (λ (x : Mark). x ∷ ps) same ∙ ap (λ (l : List Mark). q ∷ l) (one_list ps qs a.1 b.1 rest_forth rest_back)
  where
    same : p ≡ q
    same = first_or_further q qs p (forth p (first_member p ps)) (λ e. sym e) (λ c.
        first_or_further p ps q (back q (first_member q qs)) (λ e. e) (λ d. absurd (let low = a.0 q d in let high = b.0 p c in omega arith)))

    rest_forth : (x : Mark) → Contains ps x → Contains qs x
    rest_forth x c = first_or_further q qs x (forth x (further_member p ps x c))
        (λ e. absurd (let low = a.0 x c in let is : q.1 ≡ x.1 = ap (λ (m : Mark). m.1) e in let at : p.1 ≡ q.1 = ap (λ (m : Mark). m.1) same in omega arith))
        (λ d. d)

    rest_back : (x : Mark) → Contains qs x → Contains ps x
    rest_back x c = first_or_further p ps x (back x (further_member q qs x c))
        (λ e. absurd (let low = b.0 x c in let is : p.1 ≡ x.1 = ap (λ (m : Mark). m.1) e in let at : p.1 ≡ q.1 = ap (λ (m : Mark). m.1) same in omega arith))
        (λ d. d)

-- scopes in the order of their headers ascend
ascends : (rows : List ScopeRow) → ((s t : ℕ) → s < t → t < length rows → header_of rows s < header_of rows t)
    → Ascends (map mark rows)
ascends [] h = tt
ascends (row ∷ rows) h = (
  λ q c.
      let found = mapped mark rows q c in
      let at = placed rows found.0 found.1 in
      let low = slice_get_within rows found.1.0 found.0 at in
      let is = get_or_from_slice_get rows found.1.0 found.0 no_scope at in
      let less = h 0 (suc found.1.0) (omega arith) (omega arith) in
      let same : header_of rows found.1.0 ≡ q.1 = ap (λ (r : ScopeRow). r.header) is ∙ ap (λ (m : Mark). m.1) found.2 in
      omega arith,
  ascends rows (λ s t before low. h (suc s) (suc t) (omega arith) (omega arith)),
)

-- ---- two outlines of one graph

module _ (plan : Plan) (ok : IsPlan plan) where
  module _ (o other : Shape) (d : IsOutlineOf plan o) (e : IsOutlineOf plan other) where
    -- a scope of the one has its mark among those of the other
    marked : (p : Mark) → Contains (map mark o.scopes) p → Contains (map mark other.scopes) p
    marked p c =
        let found = mapped mark o.scopes p c in
        let at = placed o.scopes found.0 found.1 in
        let low = slice_get_within o.scopes found.1.0 found.0 at in
        let is : get_or o.scopes found.1.0 no_scope ≡ found.0 = get_or_from_slice_get o.scopes found.1.0 found.0 no_scope at in
        let header = d.headers found.1.0 low in
        let here = e.all (kind_of o.scopes found.1.0) (header_of o.scopes found.1.0) header in
        let there = slice_get-get_or other.scopes here.0 no_scope here.1 in
        let row = get_or other.scopes here.0 no_scope in
        let among = image mark other.scopes row (contained other.scopes here.0 row there) in
        let kinds : row.kind ≡ p.0 = here.2 ∙ ap (λ (r : ScopeRow). r.kind) is ∙ ap (λ (m : Mark). m.0) found.2 in
        let headers : row.header ≡ p.1 = here.3 ∙ ap (λ (r : ScopeRow). r.header) is ∙ ap (λ (m : Mark). m.1) found.2 in
        subst (λ (m : Mark). Contains (map mark other.scopes) m) (λ i. (kinds i, headers i)) among

  module _ (o : Shape) (d : IsOutlineOf plan o) where
    -- two scopes that lie in one another have one header
    one_header : (k l : ScopeKind) (g h : ℕ) → IsHeader plan k g → IsHeader plan l h → IsInside plan k g l h
        → IsInside plan l h k g → g ≡ h
    one_header k l g h kg lh in_h in_g =
        elim (same_or_not g h) [
          | inl is ↦ is
          | inr apart ↦
              let g_low = header_low plan ok k g kg in
              let h_low = header_low plan ok l h lh in
              let over_g = header_dominates plan ok l h g lh g_low (in_h g g_low (header_held plan ok k g)) in
              let over_h = header_dominates plan ok k g h kg h_low (in_g h h_low (header_held plan ok l h)) in
              let one = dominator_lower (leads plan) (length plan.places) o.ranks d.ranked (λ u v edge. (ok.within u v edge).0) ok.reached (suc (get_or o.ranks g 0)) h g (omega arith) g_low (λ is. apart (sym is)) over_g in
              let two = dominator_lower (leads plan) (length plan.places) o.ranks d.ranked (λ u v edge. (ok.within u v edge).0) ok.reached (suc (get_or o.ranks h 0)) g h (omega arith) h_low apart over_h in
              absurd (omega arith)
        ]

    -- a header has one scope
    one_scope : (s t : ℕ) → s < length o.scopes → t < length o.scopes → header_of o.scopes s ≡ header_of o.scopes t
        → s ≡ t
    one_scope s t s_low t_low is =
        elim (same_or_not s t) [
          | inl same ↦ same
          | inr apart ↦ absurd (elim (order s t apart) [
            | inl before ↦ (let less = d.ascend s t before t_low in omega arith)
            | inr after ↦ (let less = d.ascend t s after s_low in omega arith)
          ])
        ]
      where
        order : (m n : ℕ) → m ≢ n → (m < n) ⊎ (n < m)
        order m n apart = elim (cases_lt m n) [ inl before ↦ inl before | inr after ↦ inr (omega (arith, apart)) ]

module _ (plan : Plan) (ok : IsPlan plan) (o other : Shape) (d : IsOutlineOf plan o) (e : IsOutlineOf plan other) where
  marks_same : map mark o.scopes ≡ map mark other.scopes
  marks_same = one_list (map mark o.scopes) (map mark other.scopes) (ascends o.scopes d.ascend) (ascends other.scopes e.ascend) (marked plan ok o other d e) (marked plan ok other o e d)

  long_same : length o.scopes ≡ length other.scopes
  long_same = sym (length-map o.scopes mark) ∙ ap length marks_same ∙ length-map other.scopes mark

  mark_same : (i : ℕ) → i < length o.scopes → mark (get_or o.scopes i no_scope) ≡ mark (get_or other.scopes i no_scope)
  mark_same i low =
      let low_too : i < length other.scopes = let same = long_same in omega arith in
      sym (get_or-map mark o.scopes i no_scope (mark no_scope) low) ∙ ap (λ (l : List Mark). get_or l i (mark no_scope)) marks_same ∙ get_or-map mark other.scopes i no_scope (mark no_scope) low_too

  -- what lies in what is the same
  inside_back : (s t : ℕ) → s < length o.scopes → t < length o.scopes → scope_inside plan other.scopes s t
      → scope_inside plan o.scopes s t
  inside_back s t s_low t_low within =
      subst (λ (m : Mark). IsInside plan m.0 m.1 (kind_of o.scopes t) (header_of o.scopes t)) (sym (mark_same s s_low))
      (subst (λ (m : Mark). IsInside plan (kind_of other.scopes s) (header_of other.scopes s) m.0 m.1) (sym (mark_same t t_low)) within)

  inside_forth : (s t : ℕ) → s < length o.scopes → t < length o.scopes → scope_inside plan o.scopes s t
      → scope_inside plan other.scopes s t
  inside_forth s t s_low t_low within =
      subst (λ (m : Mark). IsInside plan m.0 m.1 (kind_of other.scopes t) (header_of other.scopes t)) (mark_same s s_low)
      (subst (λ (m : Mark). IsInside plan (kind_of o.scopes s) (header_of o.scopes s) m.0 m.1) (mark_same t t_low) within)

  parents_are : (s : ℕ) → s < length o.scopes → (a b : Option ℕ) → IsParent plan o.scopes s a
      → IsParent plan other.scopes s b → a ≡ b
  parents_are s low None None h k = refl
  parents_are s low None (Some p) h k = absurd (let p_low : p < length o.scopes = let same = long_same in let is = k.0 in omega arith in h p p_low k.1 (inside_back s p low p_low k.2))
  parents_are s low (Some p) None h k = absurd (k p (let same = long_same in let is = h.0 in omega arith) h.1 (inside_forth s p low h.0 h.2))
  parents_are s low (Some p) (Some q) h k =
      let q_low : q < length o.scopes = let same = long_same in let is = k.0 in omega arith in
      let p_too : p < length other.scopes = let same = long_same in let is = h.0 in omega arith in
      let in_q = h.3 q q_low k.1 (inside_back s q low q_low k.2) in
      let in_p = inside_back q p q_low h.0 (k.3 p p_too h.1 (inside_forth s p low h.0 h.2)) in
      let header = one_header plan ok o d (kind_of o.scopes p) (kind_of o.scopes q) (header_of o.scopes p) (header_of o.scopes q) (d.headers p h.0) (d.headers q q_low) in_q in_p in
      ap Some (one_scope plan ok o d p q h.0 q_low header)

  row_same : (i : ℕ) → i < length o.scopes → get_or o.scopes i no_scope ≡ get_or other.scopes i no_scope
  row_same i low =
      let low_too : i < length other.scopes = let same = long_same in omega arith in
      let parents = parents_are i low (parent_of o.scopes i) (parent_of other.scopes i) (d.parents i low) (e.parents i low_too) in
      let marks = mark_same i low in
      λ j. record { parent = parents j; header = (marks j).1; kind = (marks j).0 }

  own_same : (n : ℕ) → n < length o.own → get_or o.own n 0 ≡ get_or other.own n 0
  own_same n low =
      let there : n < length plan.places = let is = d.one_each in omega arith in
      let one = d.own n there in
      let two = e.own n there in
      let a = get_or o.own n 0 in
      let b = get_or other.own n 0 in
      let b_low : b < length o.scopes = let same = long_same in let is = two.0 in omega arith in
      let same = mark_same b b_low in
      let held = subst (λ (m : Mark). InScope plan m.0 m.1 n) (sym same) two.1.holds in
      let in_b = one.1.least (kind_of o.scopes b) (header_of o.scopes b) (d.headers b b_low) held in
      let in_a = subst (λ (m : Mark). IsInside plan m.0 m.1 (kind_of o.scopes a) (header_of o.scopes a)) (sym same) (two.1.least (kind_of o.scopes a) (header_of o.scopes a) one.1.header one.1.holds) in
      let header = one_header plan ok o d (kind_of o.scopes a) (kind_of o.scopes b) (header_of o.scopes a) (header_of o.scopes b) one.1.header (d.headers b b_low) in_b in_a in
      one_scope plan ok o d a b one.0 b_low header

  pub same_outline : IsSameOutline o other
  same_outline = record {
    scopes = ext_get_or no_scope o.scopes other.scopes long_same row_same;
    own = ext_get_or 0 o.own other.own (d.one_each ∙ sym e.one_each) own_same;
  }
