-- Scopes are nested or disjoint.
--   no_node_both_ways    no two nodes dominate each other
--   scope_entered        an edge into a scope goes to its header or comes from inside
--   scope_calls          a scope holds the instances that its nodes call
--   header_dominates     the header dominates each node of the scope
--   nested_or_disjoint   of two scopes with a common node one lies in the other
--   one_kind             no node is the header of two scopes
--   dominator_lower      a node that dominates another has a lower rank
use Rattle.std.proofs.Common.{◌≡◌, ◌≢◌, ◌<◌, ℕ, zero, suc, List, [], ◌∷◌, ◌++◌, ◌⊎◌, inl, inr, Option, Some, None, Contains, length, get_or, refl, ap, sym, ◌∙◌, subst, arith}
use Rattle.std.proofs.lemmas.List.{append_assoc}
use Rattle.std.proofs.lemmas.List.Elements.{Contains-append_left, Contains-append_right, Contains-push, Contains-push_cases}
use Rattle.lists.specs.MemberLaws.{no_member, first_member, further_member}
use Rattle.graph_walks.specs.Walks.{Walk, stays, goes_on}
use Rattle.graph_walks.specs.ListLaws.{same_or_not, contains_cases, cut_at}
use Rattle.graph_walks.specs.WalkLaws.{walk_cons, walk_ends, split}
use Rattle.domain_core.specs.declared.scope_kind.ScopeKind.{ScopeKind}
use Rattle.domain_core.specs.declared.scope_kind.ScopeKind.TheVariants.{Call, Loop}
use Rattle.domain_core.specs.Reducible.{Dominates, IsForwardEdge, IsRanking}
use Rattle.domain_core.specs.ReducibleLaws.{dominates_before}
use Rattle.domain_core.specs.Scopes.{Plan, leads, path_at, block_at, Extends, inside, calls, returns_from, IsPlan, IsBody, IsCalledFrom, InScope, IsHeader, IsInside}

-- an element stands in a list or does not
pub contains_or_not : (xs : List ℕ) (x : ℕ) → Contains xs x ⊎ (Contains xs x → ⊥)
contains_or_not [] x = inr (λ there. no_member x there)
contains_or_not (y ∷ xs) x =
    elim (same_or_not x y) [
      | inl e ↦ inl (subst (λ (n : ℕ). Contains (y ∷ xs) n) (sym e) (first_member y xs))
      | inr other ↦ elim (contains_or_not xs x) [
        | inl more ↦ inl (further_member y xs x more)
        | inr none ↦ inr (λ there. elim (contains_cases y xs x there) [ inl e ↦ other e | inr more ↦ none more ])
      ]
    ]

-- ---- dominators

module _ (Leads : ℕ → ℕ → Type 0) where
  -- a walk from a on, none of whose later nodes is p or q
  data Way (p q a : ℕ) : ℕ → Type 0 where
    here : Way p q a a
    farther : {u v : ℕ} → Way p q a u → Leads u v → v ≢ p → v ≢ q → Way p q a v

  -- the last of two nodes on a walk
  latest : (p q x : ℕ) (path : List ℕ) → Walk Leads 0 x path → Contains path p → Way p q p x ⊎ Way p q q x
  latest p q x path stays there =
      elim (contains_cases 0 [] p there) [ inl e ↦ inl (subst (λ (n : ℕ). Way p q p n) e here) | inr none ↦ (no_member p none) ]
  latest p q x path (goes_on {u = u} {v = v} {path = before} walk edge) there =
      elim (same_or_not v p) [
        | inl e ↦ inl (subst (λ (n : ℕ). Way p q p n) (sym e) here)
        | inr not_p ↦ elim (same_or_not v q) [
          | inl e ↦ inr (subst (λ (n : ℕ). Way p q q n) (sym e) here)
          | inr not_q ↦ elim (Contains-push_cases before v p there) [
            | inl earlier ↦ elim (latest p q u before walk earlier) [ inl way ↦ inl (farther way edge not_p not_q) | inr way ↦ inr (farther way edge not_p not_q) ]
            | inr e ↦ absurd (not_p e)
          ]
        ]
      ]

  -- a walk goes on along such a way, and avoids what it avoided
  walk_on : (p q a x z : ℕ) → ((v : ℕ) → v ≢ p → v ≢ q → v ≢ z) → Way p q a x → (path : List ℕ) → Walk Leads 0 a path
      → (Contains path z → ⊥) → (longer : List ℕ) × Walk Leads 0 x longer × (Contains longer z → ⊥)
  walk_on p q a x z apart here path walk avoids = (path, walk, avoids)
  walk_on p q a x z apart (farther {u = u} {v = v} way edge not_p not_q) path walk avoids =
      let r = walk_on p q a u z apart way path walk avoids in
      (r.0 ++ v ∷ [], goes_on r.1 edge, λ there. elim (Contains-push_cases r.0 v z there) [ inl earlier ↦ r.2 earlier | inr e ↦ apart v not_p not_q e ])

  -- so what dominates its end dominates its start
  dominates_start : (p q a x z : ℕ) → ((v : ℕ) → v ≢ p → v ≢ q → v ≢ z) → Way p q a x → Dominates Leads z x
      → Dominates Leads z a
  dominates_start p q a x z apart way dominates path walk =
      elim (contains_or_not path z) [ inl there ↦ there | inr none ↦ let r = walk_on p q a x z apart way path walk none in absurd (r.2 (dominates r.0 r.1)) ]

  -- no two nodes dominate each other
  pub no_node_both_ways : (p q : ℕ) → p ≢ q → Dominates Leads p q → Dominates Leads q p → (x : ℕ) (path : List ℕ)
      → Walk Leads 0 x path → Contains path p ⊎ Contains path q → ⊥
  no_node_both_ways p q other p_q q_p x path stays (inl there) =
      elim (contains_cases 0 [] p there) [
        | inr none ↦ no_member p none
        | inl e ↦ elim (contains_cases 0 [] q (q_p (0 ∷ []) (subst (λ (n : ℕ). Walk Leads 0 n (0 ∷ [])) (sym e) stays))) [ inl same ↦ other (e ∙ sym same) | inr none ↦ no_member q none ]
      ]
  no_node_both_ways p q other p_q q_p x path stays (inr there) =
      elim (contains_cases 0 [] q there) [
        | inr none ↦ no_member q none
        | inl e ↦ elim (contains_cases 0 [] p (p_q (0 ∷ []) (subst (λ (n : ℕ). Walk Leads 0 n (0 ∷ [])) (sym e) stays))) [ inl same ↦ other (same ∙ sym e) | inr none ↦ no_member p none ]
      ]
  no_node_both_ways p q other p_q q_p x path (goes_on {u = u} {v = v} {path = before} walk edge) (inl there) =
      elim (Contains-push_cases before v p there) [
        | inl earlier ↦ no_node_both_ways p q other p_q q_p u before walk (inl earlier)
        | inr e ↦ elim (Contains-push_cases before v q (q_p (before ++ v ∷ []) (subst (λ (n : ℕ). Walk Leads 0 n (before ++ v ∷ [])) e (goes_on walk edge)))) [
          | inl earlier ↦ no_node_both_ways p q other p_q q_p u before walk (inr earlier)
          | inr same ↦ other (sym e ∙ same)
        ]
      ]
  no_node_both_ways p q other p_q q_p x path (goes_on {u = u} {v = v} {path = before} walk edge) (inr there) =
      elim (Contains-push_cases before v q there) [
        | inl earlier ↦ no_node_both_ways p q other p_q q_p u before walk (inr earlier)
        | inr e ↦ elim (Contains-push_cases before v p (p_q (before ++ v ∷ []) (subst (λ (n : ℕ). Walk Leads 0 n (before ++ v ∷ [])) e (goes_on walk edge)))) [
          | inl earlier ↦ no_node_both_ways p q other p_q q_p u before walk (inl earlier)
          | inr same ↦ other (sym same ∙ e)
        ]
      ]

-- ---- scopes

module _ (plan : Plan) (ok : IsPlan plan) where
  -- a path with one call more
  calls_on : (path start : List ℕ) (b : ℕ) (more : List ℕ) → more ≡ b ∷ path → Extends path start → Extends more start
  calls_on path start b more e (rest, is) = (b ∷ rest, e ∙ ap (λ (xs : List ℕ). b ∷ xs) is)

  -- a path after a path
  calls_twice : (path start most : List ℕ) → Extends path start → Extends most path → Extends most start
  calls_twice path start most (rest, is) (more, e) = (more ++ rest, e ∙ ap (λ (xs : List ℕ). more ++ xs) is ∙ sym (append_assoc more rest start))

  -- a path of which one call is taken away extends the start still, or the start is all of it
  calls_before : (path start rest : List ℕ) (b : ℕ) → b ∷ path ≡ rest ++ start → (b ∷ path ≡ start) ⊎ Extends path start
  calls_before path start [] b e = inl e
  calls_before path start (x ∷ rest) b e = inr (rest, (let tails : path ≡ rest ++ start = cc in tails))

  some_is_not : (b : ℕ) (o : Option ℕ) → o ≡ Some b → o ≡ None → ⊥
  some_is_not b o is none = let e : Some b ≡ None = sym is ∙ none in cc

  -- an edge into a scope goes to its header or comes from inside
  pub scope_entered : (kind : ScopeKind) (h : ℕ) → IsHeader plan kind h → (x y : ℕ) → leads plan x y
      → y < length plan.places → y ≢ h → InScope plan kind h y → InScope plan kind h x
  scope_entered Call h header x y edge low other (rest, is) =
      elim (ok.steps x y edge low) [
        | inside same block ↦ (rest, same ∙ is)
        | calls b block path entry ↦ elim (calls_before (path_at plan x) (path_at plan h) rest b (sym path ∙ is)) [
          | inl whole ↦ absurd (other (ok.apart y h low header.0 (path ∙ whole) (entry ∙ sym header.1)))
          | inr start ↦ start
        ]
        | returns_from b path block ↦ calls_on (path_at plan y) (path_at plan h) b (path_at plan x) path (rest, is)
      ]
  scope_entered Loop h header x y edge low other (m, body, inl e) =
      elim body [
        | inl at_h ↦ absurd (other (e ∙ at_h))
        | inr r ↦ elim (same_or_not x h) [
          | inl is_h ↦ (x, inl is_h, inl refl)
          | inr not_h ↦ (
            x,
            inr (record {
              source = r.source;
              way = x ∷ r.way;
              back = r.back;
              walk = walk_cons (leads plan) x m r.source r.way (subst (λ (n : ℕ). leads plan x n) e edge) r.walk;
              avoids = λ there. elim (contains_cases x r.way h there) [ inl same ↦ not_h (sym same) | inr more ↦ r.avoids more ];
            }),
            inl refl,
          )
        ]
      ]
  scope_entered Loop h header x y edge low other (m, body, inr (b, block, (rest, is))) =
      elim (ok.steps x y edge low) [
        | inside same no_entry ↦ (m, body, inr (b, block, (rest, same ∙ is)))
        | calls c block_x path entry ↦ elim (calls_before (path_at plan x) (b ∷ path_at plan m) rest c (sym path ∙ is)) [
          | inl whole ↦
              let paths : path_at plan x ≡ path_at plan m = cc in
              let numbers : c ≡ b = cc in
              let inside_m : m < length plan.places = low_member m body in
              let one : x ≡ m = ok.apart x m (ok.within x y edge).0 inside_m paths (block_x ∙ ap (λ (k : ℕ). Some k) numbers ∙ sym block) in
              (m, body, inl one)
          | inr start ↦ (m, body, inr (b, block, start))
        ]
        | returns_from c path no_entry ↦ (m, body, inr (b, block, calls_on (path_at plan y) (b ∷ path_at plan m) c (path_at plan x) path (rest, is)))
      ]
    where
      low_walk : (n u : ℕ) (way : List ℕ) → Walk (leads plan) n u way → u < length plan.places → n < length plan.places
      low_walk n u way stays is_low = is_low
      low_walk n u way (goes_on {u = before} {v = v} {path = path} walk last) is_low = low_walk n before path walk (ok.within before v last).0

      low_member : (n : ℕ) → IsBody plan h n → n < length plan.places
      low_member n (inl e) = rw e (let d = header.1 in let way = ok.reached header.0 (ok.within header.0 h d.0).0 in let on = d.1 way.0 way.1 in low_on way.0 header.0 way.1 (ok.within header.0 h d.0).0 on)
        where
          low_on : (path : List ℕ) (u : ℕ) → Walk (leads plan) 0 u path → u < length plan.places → Contains path h
              → h < length plan.places
          low_on path u walk u_low there = let cut = cut_at path h there in low_walk h u (h ∷ cut.1) ((split (leads plan) 0 u h cut.0 cut.1 path walk cut.2).1) u_low
      low_member n (inr r) = low_walk n r.source r.way r.walk (ok.within r.source h r.back.0).0

  -- a scope holds the instances that its nodes call
  pub scope_calls : (kind : ScopeKind) (h m n : ℕ) → InScope plan kind h m → IsCalledFrom plan m n
      → InScope plan kind h n
  scope_calls Call h m n (rest, is) (b, block, called) = calls_twice (b ∷ path_at plan m) (path_at plan h) (path_at plan n) (calls_on (path_at plan m) (path_at plan h) b (b ∷ path_at plan m) refl (rest, is)) called
  scope_calls Loop h m n (k, body, inl e) (b, block, called) = (k, body, inr (subst (λ (i : ℕ). IsCalledFrom plan i n) e (b, block, called)))
  scope_calls Loop h m n (k, body, inr (c, at_k, start)) (b, block, called) =
      (k, body, inr (c, at_k, calls_twice (b ∷ path_at plan m) (c ∷ path_at plan k) (path_at plan n) (calls_on (path_at plan m) (c ∷ path_at plan k) b (b ∷ path_at plan m) refl start) called))

  -- a path with a call is not empty
  not_empty : (path : List ℕ) (b : ℕ) (rest : List ℕ) → [] ≡ rest ++ b ∷ path → ⊥
  not_empty path b [] e = cc
  not_empty path b (x ∷ rest) e = cc

  -- node 0 lies in a scope only as its header
  pub scope_first : (kind : ScopeKind) (h : ℕ) → IsHeader plan kind h → InScope plan kind h 0 → h ≡ 0
  scope_first Call h header (rest, is) =
      let empty : path_at plan h ≡ [] = nothing rest (path_at plan h) (sym ok.first_path ∙ is) in
      ok.apart h 0 header.0 ok.some (empty ∙ sym ok.first_path) (header.1 ∙ sym ok.first_block)
    where
      nothing : (rest start : List ℕ) → [] ≡ rest ++ start → start ≡ []
      nothing [] start e = sym e
      nothing (x ∷ rest) start e = cc
  scope_first Loop h header (m, body, inl e) =
      elim body [
        | inl at_h ↦ sym (e ∙ at_h)
        | inr r ↦ absurd (r.avoids (r.back.1 r.way (subst (λ (n : ℕ). Walk (leads plan) n r.source r.way) (sym e) r.walk)))
      ]
  scope_first Loop h header (m, body, inr (b, block, (rest, is))) = absurd (not_empty (path_at plan m) b rest (sym ok.first_path ∙ is))

  -- a walk to a node of a scope passes the header
  walk_enters : (kind : ScopeKind) (h : ℕ) → IsHeader plan kind h → (n : ℕ) (path : List ℕ) → Walk (leads plan) 0 n path
      → n < length plan.places → InScope plan kind h n → Contains path h
  walk_enters kind h header n path stays low in_scope = subst (λ (k : ℕ). Contains (0 ∷ []) k) (sym (scope_first kind h header in_scope)) (first_member 0 [])
  walk_enters kind h header n path (goes_on {u = u} {v = v} {path = before} walk edge) low in_scope =
      elim (same_or_not v h) [
        | inl e ↦ subst (λ (k : ℕ). Contains (before ++ v ∷ []) k) e (Contains-push before v)
        | inr other ↦ Contains-append_left before (v ∷ []) h (walk_enters kind h header u before walk (ok.within u v edge).0 (scope_entered kind h header u v edge low other in_scope))
      ]

  -- so the header dominates each node of the scope
  pub header_dominates : (kind : ScopeKind) (h n : ℕ) → IsHeader plan kind h → n < length plan.places
      → InScope plan kind h n → Dominates (leads plan) h n
  header_dominates kind h n header low in_scope path walk = walk_enters kind h header n path walk low in_scope

  -- against a way that avoids the header, one stays in the scope
  back_inside : (kind : ScopeKind) (h p q a x : ℕ) → IsHeader plan kind h → ((v : ℕ) → v ≢ p → v ≢ q → v ≢ h)
      → Way (leads plan) p q a x → x < length plan.places → InScope plan kind h x → InScope plan kind h a
  back_inside kind h p q a x header apart here low in_scope = in_scope
  back_inside kind h p q a x header apart (farther {u = u} {v = v} way edge not_p not_q) low in_scope =
      back_inside kind h p q a u header apart way (ok.within u v edge).0 (scope_entered kind h header u v edge low (apart v not_p not_q) in_scope)

  back_along : (kind : ScopeKind) (h m u : ℕ) (way : List ℕ) → IsHeader plan kind h → Walk (leads plan) m u way
      → (Contains way h → ⊥) → u < length plan.places → InScope plan kind h u → InScope plan kind h m
  back_along kind h m u way header stays avoids low in_scope = in_scope
  back_along kind h m u way header (goes_on {u = b} {v = v} {path = before} walk edge) avoids low in_scope =
      back_along kind h m b before header walk (λ there. avoids (Contains-append_left before (v ∷ []) h there)) (ok.within b v edge).0
      (scope_entered kind h header b v edge low (λ e. avoids (subst (λ (k : ℕ). Contains (before ++ v ∷ []) k) e (Contains-push before v))) in_scope)

  -- a scope whose header lies in another, which it does not dominate, lies in that one
  inner : (k : ScopeKind) (g : ℕ) (l : ScopeKind) (h : ℕ) → IsHeader plan k g → IsHeader plan l h → g ≢ h
      → g < length plan.places → InScope plan l h g
      → (Dominates (leads plan) g h → ⊥) → h < length plan.places → IsInside plan k g l h
  inner Loop g l h of_g of_h other low in_scope outer h_low n n_low (m, body, where_n) =
      elim where_n [ inl e ↦ subst (λ (i : ℕ). InScope plan l h i) (sym e) (from_body m body) | inr called ↦ scope_calls l h m n (from_body m body) called ]
    where
      from_body : (m : ℕ) → IsBody plan g m → InScope plan l h m
      from_body m (inl e) = subst (λ (i : ℕ). InScope plan l h i) (sym e) in_scope
      from_body m (inr r) =
          elim (contains_or_not r.way h) [
            | inl there ↦
                let cut = cut_at r.way h there in
                let after = (split (leads plan) m r.source h cut.0 cut.1 r.way r.walk cut.2).1 in
                let in_g : InScope plan Loop g h = (
                  h,
                  inr (record {
                    source = r.source;
                    way = h ∷ cut.1;
                    back = r.back;
                    walk = after;
                    avoids = λ g_there. r.avoids (subst (λ (xs : List ℕ). Contains xs g) (sym cut.2) (Contains-append_right cut.0 (h ∷ cut.1) g g_there));
                  }),
                  inl refl,
                ) in
                absurd (outer (header_dominates Loop g h of_g h_low in_g))
            | inr none ↦
                let u_low = (ok.within r.source g r.back.0).0 in
                back_along l h m r.source r.way of_h r.walk none u_low (scope_entered l h of_h r.source g r.back.0 low other in_scope)
          ]
  inner Call g l h of_g of_h other low in_scope outer h_low n n_low (rest, is) =
      let way = ok.reached g low in
      elim_walk way.0 way.1
    where
      elim_walk : (path : List ℕ) → Walk (leads plan) 0 g path → InScope plan l h n
      elim_walk path walk = last_edge g path walk refl
        where
          last_edge : (x : ℕ) (path : List ℕ) → Walk (leads plan) 0 x path → x ≡ g → InScope plan l h n
          last_edge x path stays e = absurd (other (sym e ∙ sym (scope_first l h of_h (subst (λ (i : ℕ). InScope plan l h i) (sym e) in_scope))))
          last_edge x path (goes_on {u = u} {v = v} {path = before} walk edge) e =
              let edge_g : leads plan u g = subst (λ (i : ℕ). leads plan u i) e edge in
              elim (ok.steps u g edge_g low) [
                | inside same block ↦ absurd (block of_g.1)
                | returns_from b path block ↦ absurd (block of_g.1)
                | calls b block path entry ↦ scope_calls l h u n (scope_entered l h of_h u g edge_g low other in_scope) (b, block, (rest, is ∙ ap (λ (xs : List ℕ). rest ++ xs) path))
              ]

  -- of two scopes with a common node one lies in the other
  pub nested_or_disjoint : (k l : ScopeKind) (g h x : ℕ) → IsHeader plan k g → IsHeader plan l h → g ≢ h
      → g < length plan.places → h < length plan.places → x < length plan.places
      → InScope plan k g x → InScope plan l h x → IsInside plan k g l h ⊎ IsInside plan l h k g
  nested_or_disjoint k l g h x of_g of_h other g_low h_low x_low in_g in_h =
      let walk = ok.reached x x_low in
      let g_x = header_dominates k g x of_g x_low in_g in
      let h_x = header_dominates l h x of_h x_low in_h in
      elim (latest (leads plan) g h x walk.0 walk.1 (g_x walk.0 walk.1)) [
        | inl way ↦
            let h_g = dominates_start (leads plan) g h g x h (λ v not_g not_h. not_h) way h_x in
            let g_in = back_inside l h g h g x of_h (λ v not_g not_h. not_h) way x_low in_h in
            inl (inner k g l h of_g of_h other g_low g_in (λ g_h. apart g_h h_g) h_low)
        | inr way ↦
            let g_h = dominates_start (leads plan) g h h x g (λ v not_g not_h. not_g) way g_x in
            let h_in = back_inside k g g h h x of_g (λ v not_g not_h. not_g) way x_low in_g in
            inr (inner l h k g of_h of_g (λ e. other (sym e)) h_low h_in (λ h_g. apart g_h h_g) g_low)
      ]
    where
      apart : Dominates (leads plan) g h → Dominates (leads plan) h g → ⊥
      apart g_h h_g = let way = ok.reached g g_low in no_node_both_ways (leads plan) g h other g_h h_g g way.0 way.1 (inl (walk_ends (leads plan) 0 g way.0 way.1))

  -- a header is a node
  pub header_low : (kind : ScopeKind) (h : ℕ) → IsHeader plan kind h → h < length plan.places
  header_low Call h header = header.0
  header_low Loop h (u, back) =
      let low = (ok.within u h back.0).0 in
      let way = ok.reached u low in
      on_walk way.0 u way.1 low (back.1 way.0 way.1)
    where
      on_walk : (path : List ℕ) (u : ℕ) → Walk (leads plan) 0 u path → u < length plan.places → Contains path h
          → h < length plan.places
      on_walk path u stays low there = elim (contains_cases 0 [] h there) [ inl e ↦ rw e low | inr none ↦ (no_member h none) ]
      on_walk path u (goes_on {u = b} {v = v} {path = before} walk edge) low there =
          elim (Contains-push_cases before v h there) [ inl earlier ↦ on_walk before b walk (ok.within b v edge).0 earlier | inr e ↦ subst (λ (n : ℕ). n < length plan.places) e low ]

  -- which its scope holds
  pub header_held : (kind : ScopeKind) (h : ℕ) → InScope plan kind h h
  header_held Call h = ([], refl)
  header_held Loop h = (h, inl refl, inl refl)

  -- no node is the header of two scopes
  pub one_kind : (h : ℕ) → IsHeader plan Call h → IsHeader plan Loop h → ⊥
  one_kind h entry (u, back) =
      let u_low = (ok.within u h back.0).0 in
      elim (same_or_not u h) [
        | inl e ↦ elim (ok.steps u h back.0 entry.0) [
          | inside same block ↦ block entry.1
          | returns_from b path block ↦ block entry.1
          | calls b block path none ↦ some_is_not b (block_at plan u) block (ap (λ (n : ℕ). block_at plan n) e ∙ entry.1)
        ]
        | inr other ↦ let way = ok.reached h entry.0 in
            no_node_both_ways (leads plan) u h other (source_dominates u back.0) back.1 h way.0 way.1 (inr (walk_ends (leads plan) 0 h way.0 way.1))
      ]
    where
      -- each walk to an entry comes from its one source
      source_dominates : (u : ℕ) → leads plan u h → Dominates (leads plan) u h
      source_dominates u edge path walk = last_edge h path walk refl
        where
          last_edge : (x : ℕ) (path : List ℕ) → Walk (leads plan) 0 x path → x ≡ h → Contains path u
          last_edge x path stays e =
              elim (ok.steps u h edge entry.0) [
                | inside same block ↦ absurd (block entry.1)
                | returns_from b path block ↦ absurd (block entry.1)
                | calls b block path none ↦ absurd (not_empty (path_at plan u) b [] (sym ok.first_path ∙ ap (λ (n : ℕ). path_at plan n) e ∙ path))
              ]
          last_edge x path (goes_on {u = w} {v = v} {path = before} walk last) e =
              let edge_w : leads plan w h = subst (λ (i : ℕ). leads plan w i) e last in
              Contains-append_left before (v ∷ []) u (subst (λ (n : ℕ). Contains before n) (one_source w u edge_w edge) (walk_ends (leads plan) 0 w before walk))
            where
              one_source : (w u : ℕ) → leads plan w h → leads plan u h → w ≡ u
              one_source w u edge_w edge_u =
                  elim (ok.steps w h edge_w entry.0) [
                    | inside same block ↦ absurd (block entry.1)
                    | returns_from b path block ↦ absurd (block entry.1)
                    | calls b block path none ↦ elim (ok.steps u h edge_u entry.0) [
                      | inside same other_block ↦ absurd (other_block entry.1)
                      | returns_from c path_c other_block ↦ absurd (other_block entry.1)
                      | calls c block_c path_c none_c ↦
                          let both : b ∷ path_at plan w ≡ c ∷ path_at plan u = sym path ∙ path_c in
                          let paths : path_at plan w ≡ path_at plan u = cc in
                          let numbers : b ≡ c = cc in
                          ok.apart w u (ok.within w h edge_w).0 (ok.within u h edge_u).0 paths (block ∙ ap (λ (k : ℕ). Some k) numbers ∙ sym block_c)
                    ]
                  ]

-- ---- ranks

module _ (Leads : ℕ → ℕ → Type 0) where
  -- a node is first entered by an edge that is no back edge
  pub first_arrival : (n x : ℕ) (path : List ℕ) → n ≢ 0 → Walk Leads 0 x path → Contains path n
      → (u : ℕ) × IsForwardEdge Leads u n
  first_arrival n x path other stays there = elim (contains_cases 0 [] n there) [ inl e ↦ absurd (other e) | inr none ↦ (no_member n none) ]
  first_arrival n x path other (goes_on {u = u} {v = v} {path = before} walk edge) there =
      elim (contains_or_not before n) [
        | inl earlier ↦ first_arrival n u before other walk earlier
        | inr new ↦ elim (Contains-push_cases before v n there) [
          | inl earlier ↦ absurd (new earlier)
          | inr e ↦ (u, (subst (λ (k : ℕ). Leads u k) e edge, λ dominates. new (dominates before walk)))
        ]
      ]

  -- a node that dominates another has a lower rank
  pub dominator_lower : (count : ℕ) (ranks : List ℕ) → IsRanking Leads count ranks → ((u v : ℕ) → Leads u v → u < count)
      → ((n : ℕ) → n < count → (path : List ℕ) × Walk Leads 0 n path)
      → (k d n : ℕ) → get_or ranks n 0 < k → n < count → d ≢ n → Dominates Leads d n → get_or ranks d 0 < get_or ranks n 0
  dominator_lower count ranks r within reached zero d n few low other dominates = absurd (omega arith)
  dominator_lower count ranks r within reached (suc k) d n few low other dominates =
      elim (same_or_not n 0) [
        | inl e ↦
            let there : Contains (0 ∷ []) d = dominates (0 ∷ []) (subst (λ (m : ℕ). Walk Leads 0 m (0 ∷ [])) (sym e) stays) in
            elim (contains_cases 0 [] d there) [ inl same ↦ absurd (other (same ∙ sym e)) | inr none ↦ (no_member d none) ]
        | inr not_first ↦
            let way = reached n low in
            let before = first_arrival n n way.0 not_first way.1 (walk_ends Leads 0 n way.0 way.1) in
            let lower = r.ready n low before.0 before.1 in
            elim (same_or_not d before.0) [
              | inl e ↦ subst (λ (m : ℕ). get_or ranks m 0 < get_or ranks n 0) (sym e) lower
              | inr apart ↦
                  let rest = dominator_lower count ranks r within reached k d before.0 (omega arith) (within before.0 n before.1.0) apart (dominates_before Leads d before.0 n before.1.0 other dominates) in
                  omega arith
            ]
      ]
