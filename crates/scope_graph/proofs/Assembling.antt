-- The parts of an outline are those of the graph.
use Rattle.std.proofs.Common.{◌≡◌, ◌≢◌, ◌<◌, ◌≤◌, ◌+◌, ◌-◌, ℕ, zero, suc, Bool, List, [], ◌∷◌, ◌++◌, ◌⊎◌, inl, inr, Option, None, Some, Contains, All, map, take, get_or, slice_get, length, refl, ap, sym, ◌∙◌, subst, arith}
use Rattle.std.proofs.lemmas.Bool.{cases_lt}
use Rattle.std.proofs.lemmas.List.{get_or_append_left, get_or_push, length_push, ext_get_or, map_push, length-map, take_more, append-nil}
use Rattle.std.proofs.lemmas.List.Elements.{All-nil, All-cons, All-append}
use Rattle.std.proofs.lemmas.Option.{slice_get_within, get_or_from_slice_get}
use Rattle.domain_core.specs.declared.scope_kind.ScopeKind.{ScopeKind}
use Rattle.domain_core.specs.declared.scope_kind.ScopeKind.TheVariants.{Call, Loop}
use Rattle.domain_core.specs.declared.outline.NodeRow.{NodeRow}
use Rattle.domain_core.specs.declared.outline.ScopeRow.{ScopeRow}
use Rattle.domain_core.specs.Reducible.{Dominates, IsRanking}
use Rattle.graph_walks.specs.ListLaws.{contains_cases, same_or_not}
use Rattle.lists.specs.MemberLaws.{further_member, no_member}
use Rattle.domain_core.specs.Scopes.{Plan, leads, path_at, IsPlan, InScope, IsHeader, IsSmallest}
use Rattle.domain_core.specs.ScopeLaws.{one_kind, header_held, header_low}
use Rattle.domain_core.specs.ScopeOrderLaws.{header_lower, later_inside, latest_smallest}
use Rattle.domain_core.specs.Outlines.{header_of, kind_of, parent_of}
use Rattle.domain_core.specs.OutlineOf.{scope_holds, IsParent, IsOutlineOf}
use Rattle.graph_walks.specs.Tables.{HasEdge}
use Rattle.scope_graph.specs.Descending.{IsBackList}
use Rattle.scope_graph.specs.Members.{MarksExactly}
use Rattle.scope_graph.specs.Inner.{IsHeld, IsGrid, rank_of, IsInnermost}
use Rattle.scope_graph.specs.Found.{IsKindAt, IsMember, IsFound}
use Rattle.scope_graph.specs.Assembled.{IsParented, IsOwned}
use Rattle.scope_graph.proofs.BodyMarks.{turned}

-- ---- one part more

-- one node more has its scope, its rank and its name
pub owned_more : (k : ℕ) (names : List (List ℕ)) (rows : List ScopeRow) (holds : List (List Bool)) (ranks : List ℕ) (nodes : List NodeRow) (row : NodeRow) → IsOwned k names rows holds ranks nodes
    → IsInnermost (length rows) rows holds ranks None k (Some row.scope) → row.rank ≡ get_or ranks k 0 → slice_get names k ≡ Some row.name.items → row.cost ≡ 0 → IsOwned (k + 1) names rows holds ranks (nodes ++ row ∷ [])
owned_more k names rows holds ranks nodes row o scope rank name cost = record {
  long = (let l = o.long in let more = length_push nodes row in omega arith);
  own = λ n low. cases (λ i. IsInnermost (length rows) rows holds ranks None i (Some (get_or (map (λ (r : NodeRow). r.scope) (nodes ++ row ∷ [])) i 0))) n low
      (λ old. subst (λ (v : ℕ). IsInnermost (length rows) rows holds ranks None n (Some v)) (sym (before (λ (r : NodeRow). r.scope) n old)) (o.own n old))
      (subst (λ (v : ℕ). IsInnermost (length rows) rows holds ranks None k (Some v)) (sym (at_end (λ (r : NodeRow). r.scope))) scope);
  ranked = λ n low. cases (λ i. get_or (map (λ (r : NodeRow). r.rank) (nodes ++ row ∷ [])) i 0 ≡ get_or ranks i 0) n low
      (λ old. before (λ (r : NodeRow). r.rank) n old ∙ o.ranked n old) (at_end (λ (r : NodeRow). r.rank) ∙ rank);
  named = map_push (λ (r : NodeRow). r.name.items) nodes row ∙ ap (λ (xs : List (List ℕ)). xs ++ row.name.items ∷ []) o.named
      ∙ sym (take_more names k row.name.items (slice_get_within names k row.name.items name) ∙ ap (λ (x : List ℕ). take k names ++ x ∷ []) (get_or_from_slice_get names k row.name.items row.name.items name));
  free = all_push (λ (r : NodeRow). r.cost ≡ 0) nodes row o.free cost;
}
  where
    before : (f : NodeRow → ℕ) (n : ℕ) → n < k → get_or (map f (nodes ++ row ∷ [])) n 0 ≡ get_or (map f nodes) n 0
    before f n low = rw (map_push f nodes row) (get_or_append_left (map f nodes) (f row ∷ []) 0 n (let l = o.long in let m = length-map nodes f in omega arith))

    at_end : (f : NodeRow → ℕ) → get_or (map f (nodes ++ row ∷ [])) k 0 ≡ f row
    at_end f = rw (map_push f nodes row) (get_or_push (map f nodes) (f row) 0 k (length-map nodes f ∙ o.long))

    cases : (P : ℕ → Type 0) (s : ℕ) → s < k + 1 → (s < k → P s) → P k → P s
    cases P s low old new = elim (cases_lt s k) [ inl a ↦ old a | inr past ↦ let e : k ≡ s = omega arith in subst P e new ]

    all_push : (P : NodeRow → Type 0) (xs : List NodeRow) (x : NodeRow) → All P xs → P x → All P (xs ++ x ∷ [])
    all_push P xs x all one = All-append P xs (x ∷ []) all (All-cons P x [] one (All-nil P))

-- ---- the whole

module _ (plan : Plan) (ok : IsPlan plan) (table : List (List ℕ)) (back : List (ℕ × ℕ)) (noted : IsBackList (leads plan) back)
    (there : (u v : ℕ) → HasEdge table u v → leads plan v u) (all : (u v : ℕ) → leads plan u v → HasEdge table v u)
  where
    -- what is found by marks is in the scope
    member_is : (kind : ScopeKind) (h n : ℕ) → IsMember table back plan kind h n → InScope plan kind h n
    member_is Call h n m = m
    member_is Loop h n (m, body, way) = (
      m,
      elim body [
        | inl e ↦ inl e
        | inr r ↦ let turn = turned (HasEdge table) (leads plan) there r.source m r.path r.walk in inr (record { source = r.source; way = turn.0; back = noted.backs r.source h r.noted; walk = turn.1; avoids = λ at_h. r.avoids (turn.2 h at_h) })
      ],
      way,
    )

    is_member : (kind : ScopeKind) (h n : ℕ) → InScope plan kind h n → IsMember table back plan kind h n
    is_member Call h n m = m
    is_member Loop h n (m, body, way) = (
      m,
      elim body [
        | inl e ↦ inl e
        | inr r ↦ let turn = turned (leads plan) (HasEdge table) all m r.source r.way r.walk in inr (record { source = r.source; path = turn.0; noted = noted.all r.source h r.back; walk = turn.1; avoids = λ at_h. r.avoids (turn.2 h at_h) })
      ],
      way,
    )

    -- kinds are those of headers
    kind_is : (kind : ScopeKind) (h : ℕ) → h < length plan.places → IsKindAt plan back h (Some kind)
        → IsHeader plan kind h
    kind_is Call h low e = (low, e)
    kind_is Loop h low (other, (u, in_list)) = (u, noted.backs u h in_list)

    is_kind : (kind : ScopeKind) (h : ℕ) → IsHeader plan kind h → IsKindAt plan back h (Some kind)
    is_kind Call h (low, e) = e
    is_kind Loop h (u, edge) = ((λ e. one_kind plan ok h (header_low plan ok Loop h (u, edge), e) (u, edge)), (u, noted.all u h edge))

    module _ (rows : List ScopeRow) (holds : List (List Bool)) (ranks : List ℕ) (f : IsFound table back plan (length plan.places) rows holds) (ranked : IsRanking (leads plan) (length plan.places) ranks) where
      -- each has its header
      headers_are : (s : ℕ) → s < length rows → IsHeader plan (kind_of rows s) (header_of rows s)
      headers_are s low = kind_is (kind_of rows s) (header_of rows s) (f.below s low) (f.kinds s low)

      held_is : (s n : ℕ) → s < length rows → IsHeld holds s n → scope_holds plan rows s n
      held_is s n low held = member_is (kind_of rows s) (header_of rows s) n ((f.held s low).yes n held)

      is_held : (s n : ℕ) → s < length rows → n < length plan.places → scope_holds plan rows s n → IsHeld holds s n
      is_held s n low n_low held = (f.held s low).all n n_low (is_member (kind_of rows s) (header_of rows s) n held)

      -- each header has its scope
      all_are : (kind : ScopeKind) (h : ℕ) → IsHeader plan kind h
          → (s : ℕ) × (s < length rows) × (kind_of rows s ≡ kind) × (header_of rows s ≡ h)
      all_are kind h header = f.all kind h (header_low plan ok kind h header) (is_kind kind h header)

      -- the code's grid
      pub found_grid : length ranks ≡ length plan.places → IsGrid rows holds (length ranks)
      found_grid long = record { long = f.long; wide = λ s low. (f.held s low).long ∙ sym long; headers = λ s low. let b = f.below s low in omega arith }

      -- each node lies in the root's scope
      pub some_holds : (n : ℕ) → n < length plan.places → (s : ℕ) × (s < length rows) × IsHeld holds s n
      some_holds n low =
          let root = all_are Call 0 (ok.some, ok.first_block) in
          let in_root : InScope plan Call 0 n = (path_at plan n, sym (append-nil (path_at plan n)) ∙ ap (λ (start : List ℕ). path_at plan n ++ start) (sym ok.first_path)) in
          (root.0, root.1, is_held root.0 n root.1 low (subst (λ (kind : ScopeKind). InScope plan kind (header_of rows root.0) n) (sym root.2) (subst (λ (h : ℕ). InScope plan Call h n) (sym root.3) in_root)))

      -- the innermost is the smallest
      own_is : (n b : ℕ) → n < length plan.places → IsInnermost (length rows) rows holds ranks None n (Some b)
          → (b < length rows) × IsSmallest plan (kind_of rows b) (header_of rows b) n
      own_is n b low (inside, candidate, latest) = (
        inside,
        latest_smallest plan ok ranks ranked (kind_of rows b) (header_of rows b) n (headers_are b inside) low (held_is b n inside candidate.0) (λ l g of_g in_g.
            let t = all_are l g of_g in
            let in_t : scope_holds plan rows t.0 n = subst (λ (kind : ScopeKind). InScope plan kind (header_of rows t.0) n) (sym t.2) (subst (λ (h : ℕ). InScope plan l h n) (sym t.3) in_g) in
            subst (λ (h : ℕ). get_or ranks h 0 ≤ rank_of rows ranks b) t.3 (latest t.0 t.1 (is_held t.0 n t.1 low in_t, λ none. let e : None ≡ Some t.0 = none in cc))),
      )

      -- and the innermost other scope around a scope is its parent
      parent_is : (s : ℕ) (parent : Option ℕ) → s < length rows
          → IsInnermost (length rows) rows holds ranks (Some s) (header_of rows s) parent → IsParent plan rows s parent
      parent_is s None low none = λ t t_low other within.
          let g = header_of rows s in
          let in_t = within g (f.below s low) (header_held plan ok (kind_of rows s) g) in
          none t t_low (is_held t g t_low (f.below s low) in_t, λ e. let same : t ≡ s = cc in other same)
      parent_is s (Some p) low (inside, candidate, latest) =
          let g = header_of rows s in
          let h = header_of rows p in
          let g_low = f.below s low in
          let apart : p ≢ s = (λ e. candidate.1 (ap (λ (i : ℕ). Some i) (sym e))) in
          let in_p = held_is p g inside candidate.0 in
          let own_g : scope_holds plan rows s g = header_held plan ok (kind_of rows s) g in
          let lower = header_lower plan ok ranks ranked (kind_of rows p) h g (headers_are p inside) g_low (headers_apart p s inside low apart) in_p in (
            inside,
            apart,
            later_inside plan ok ranks ranked (kind_of rows p) (kind_of rows s) h g g (headers_are p inside) (headers_are s low) g_low in_p own_g (omega arith),
            λ t t_low other within.
                let in_t = within g g_low own_g in
                let later = latest t t_low (is_held t g t_low g_low in_t, λ e. let same : t ≡ s = cc in other same) in
                later_inside plan ok ranks ranked (kind_of rows t) (kind_of rows p) (header_of rows t) h g (headers_are t t_low) (headers_are p inside) g_low in_t in_p later,
          )
        where
          headers_apart : (a b : ℕ) → a < length rows → b < length rows → a ≢ b → header_of rows a ≢ header_of rows b
          headers_apart a b a_low b_low other e =
              elim (cases_lt a b) [ inl before ↦ let up = f.ascend a b before b_low in absurd (omega arith) | inr after ↦ let up = f.ascend b a (omega arith) a_low in absurd (omega arith) ]

      -- there are no more scopes than nodes
      header_high : (s : ℕ) → s < length rows → s ≤ header_of rows s
      header_high zero low = omega arith
      header_high (suc s) low = let before = header_high s (omega arith) in let up = f.ascend s (suc s) (omega arith) low in omega arith

      pub few_found : length rows ≤ length plan.places
      few_found = elim (cases_lt 0 (length rows)) [
        | inl some ↦ (let last = length rows - 1 in let low : length rows - 1 < length rows = omega arith in let high = header_high (length rows - 1) low in let b = f.below (length rows - 1) low in omega arith)
        | inr none ↦ omega arith
      ]

      module _ (scopes : List ScopeRow) (p : IsParented (length rows) rows holds ranks scopes) where
        -- the scopes with their parents are those that were found
        found_same : IsFound table back plan (length plan.places) scopes holds
        found_same = record {
          long = f.long ∙ sym p.long;
          below = λ s low. let e = p.headers s (old s low) in let b = f.below s (old s low) in omega arith;
          kinds = λ s low. both (λ k h. IsKindAt plan back h (Some k)) s (old s low) (f.kinds s (old s low));
          held = λ s low. both (λ k h. MarksExactly (length plan.places) (IsMember table back plan k h) (get_or holds s [])) s (old s low) (f.held s (old s low));
          ascend = λ s t before low. let a = p.headers s (old s (let l = p.long in omega arith)) in let b = p.headers t (old t low) in let up = f.ascend s t before (old t low) in omega arith;
          all = λ kind h low is. let r = f.all kind h low is in (r.0, (let l = p.long in let s_low = r.1 in omega arith), p.kinds r.0 r.1 ∙ r.2, p.headers r.0 r.1 ∙ r.3);
        }
          where
            old : (s : ℕ) → s < length scopes → s < length rows
            old s low = let l = p.long in omega arith

            both : (P : ScopeKind → ℕ → Type 0) (s : ℕ) → s < length rows → P (kind_of rows s) (header_of rows s)
                → P (kind_of scopes s) (header_of scopes s)
            both P s low is = subst (λ (k : ScopeKind). P k (header_of scopes s)) (sym (p.kinds s low)) (subst (λ (h : ℕ). P (kind_of rows s) h) (sym (p.headers s low)) is)

        -- and the innermost are the same
        rank_same : (s : ℕ) → s < length rows → rank_of scopes ranks s ≡ rank_of rows ranks s
        rank_same s low = ap (λ (h : ℕ). get_or ranks h 0) (p.headers s low)

        pub inner_same : (except : Option ℕ) (n : ℕ) (best : Option ℕ)
            → IsInnermost (length rows) rows holds ranks except n best
            → IsInnermost (length scopes) scopes holds ranks except n best
        inner_same except n None none = λ s low candidate. none s (let l = p.long in omega arith) candidate
        inner_same except n (Some b) (inside, candidate, latest) = (
          (let l = p.long in omega arith),
          candidate,
          λ s low c. let low_s : s < length rows = (let l = p.long in omega arith) in let a = rank_same s low_s in let e = rank_same b inside in let later = latest s low_s c in omega arith,
        )

-- the parts make the outline
pub whole : (plan : Plan) → IsPlan plan → (table : List (List ℕ)) (back : List (ℕ × ℕ)) → IsBackList (leads plan) back
    → ((u v : ℕ) → HasEdge table u v → leads plan v u) → ((u v : ℕ) → leads plan u v → HasEdge table v u)
    → (names : List (List ℕ)) (rows scopes : List ScopeRow) (holds : List (List Bool)) (ranks : List ℕ) (nodes : List NodeRow) → IsFound table back plan (length plan.places) rows holds → IsRanking (leads plan) (length plan.places) ranks
    → IsParented (length rows) rows holds ranks scopes → IsOwned (length plan.places) names rows holds ranks nodes
    → IsOutlineOf plan (record { edges = plan.edges; own = map (λ (row : NodeRow). row.scope) nodes; ranks = map (λ (row : NodeRow). row.rank) nodes; scopes = scopes })
whole plan ok table back noted there all names rows scopes holds ranks nodes f ranked p o = record {
  edges = refl;
  one_each = length-map nodes (λ (row : NodeRow). row.scope) ∙ o.long;
  ranked = subst (λ (xs : List ℕ). IsRanking (leads plan) (length plan.places) xs) (sym same_ranks) ranked;
  headers = λ s low. headers_are plan ok table back noted there all scopes holds ranks g ranked s low;
  all = λ kind h header. all_are plan ok table back noted there all scopes holds ranks g ranked kind h header;
  ascend = g.ascend;
  own = λ n low. own_is plan ok table back noted there all scopes holds ranks g ranked n (get_or (map (λ (row : NodeRow). row.scope) nodes) n 0) low
      (inner_same plan ok table back noted there all rows holds ranks f ranked scopes p None n (Some (get_or (map (λ (row : NodeRow). row.scope) nodes) n 0)) (o.own n low));
  parents = λ s low. let old : s < length rows = (let l = p.long in omega arith) in
      parent_is plan ok table back noted there all scopes holds ranks g ranked s (parent_of scopes s) low
      (subst (λ (h : ℕ). IsInnermost (length scopes) scopes holds ranks (Some s) h (parent_of scopes s)) (sym (p.headers s old))
      (inner_same plan ok table back noted there all rows holds ranks f ranked scopes p (Some s) (header_of rows s) (parent_of scopes s) (p.parents s old)));
}
  where
    g : IsFound table back plan (length plan.places) scopes holds
    g = found_same plan ok table back noted there all rows holds ranks f ranked scopes p

    same_ranks : map (λ (row : NodeRow). row.rank) nodes ≡ ranks
    same_ranks = let long = length-map nodes (λ (row : NodeRow). row.rank) in
        ext_get_or 0 (map (λ (row : NodeRow). row.rank) nodes) ranks (long ∙ o.long ∙ sym ranked.one_each) (λ i low. o.ranked i (let l = o.long in let e = long in omega arith))

-- a list of edges has a pair or not
pair_or_not : (edges : List (ℕ × ℕ)) (u v : ℕ) → Contains edges (u, v) ⊎ (Contains edges (u, v) → ⊥)
pair_or_not [] u v = inr (λ h. no_member (u, v) h)
pair_or_not (edge ∷ edges) u v = elim (pair_or_not edges u v) [
  | inl more ↦ inl (further_member edge edges (u, v) more)
  | inr none ↦ elim (same_or_not edge.0 u) [
    | inr other ↦ inr (λ h. elim (contains_cases edge edges (u, v) h) [ inl e ↦ other (sym (ap (λ (x : ℕ × ℕ). x.0) e)) | inr more ↦ none more ])
    | inl first ↦ elim (same_or_not edge.1 v) [
      | inr other ↦ inr (λ h. elim (contains_cases edge edges (u, v) h) [ inl e ↦ other (sym (ap (λ (x : ℕ × ℕ). x.1) e)) | inr more ↦ none more ])
      | inl second ↦ inl (0, omega arith, ap (λ (n : ℕ). (n, edge.1)) first ∙ ap (λ (n : ℕ). (u, n)) second)
    ]
  ]
]

-- so it is decided which edges lead back
pub back_or_not : (Leads : ℕ → ℕ → Type 0) (back : List (ℕ × ℕ)) → IsBackList Leads back → (u v : ℕ) → Leads u v
    → Dominates Leads v u ⊎ (Dominates Leads v u → ⊥)
back_or_not Leads back noted u v edge = elim (pair_or_not back u v) [ inl there ↦ inl (noted.backs u v there).1 | inr none ↦ inr (λ dominates. none (noted.all u v (edge, dominates))) ]
