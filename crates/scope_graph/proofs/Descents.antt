-- What the depth-first walk keeps.
use Rattle.std.proofs.Common.{◌≡◌, ◌≢◌, ◌<◌, ◌≤◌, ◌+◌, ℕ, suc, Bool, true, false, ◌==◌, if◌then◌else◌, eq-eqb, List, [], ◌∷◌, ◌++◌, ◌⊎◌, inl, inr, get_or, set, replicate, length, take, drop, Contains, refl, ap, sym, ◌∙◌, subst, arith}
use Rattle.std.proofs.lemmas.List.{take-append-drop, take_more, drop_more, length-replicate}
use Rattle.std.proofs.lemmas.List.Elements.{Contains-push_cases, Contains-append_left, Contains-push}
use Rattle.std.proofs.lemmas.Bool.{eqb-true, ne_eqb}
use Rattle.graph_walks.specs.Walks.{Walk, stays, goes_on, IsDistinct}
use Rattle.domain_core.specs.Reducible.{Dominates, IsBackEdge, IsCrossing, IsFalling}
use Rattle.graph_walks.specs.WalkLaws.{walk_ends, split}
use Rattle.graph_walks.specs.ListLaws.{contains_cases, distinct_push, distinct_front}
use Rattle.lists.specs.MemberLaws.{first_member, further_member, no_member}
use Rattle.graph_walks.specs.Tables.{HasEdge}
use Rattle.graph_walks.specs.MarkedNodes.{IsMarked, IsBarred, IsPathPast}
use Rattle.scope_graph.specs.Tables.{IsAround}
use Rattle.scope_graph.specs.Descending.{IsLooked, IsSettled, IsDescent, IsVisited, IsChecked, IsBackList}
use Rattle.lists.specs.TestLaws.{by_test}
use Rattle.graph_walks.specs.MarkedNodeLaws.{both, none_marked, marked_kept, marked_either, marked_new, barred_by_one}

-- ---- what is noted and left stays so

looked_kept : (table : List (List ℕ)) (back more : List (ℕ × ℕ)) (order : List ℕ) (u v : ℕ)
    → ((a b : ℕ) → Contains back (a, b) → Contains more (a, b))
    → IsLooked table back order u v → IsLooked table more order u v
looked_kept table back more order u v kept l = (elim l.0 [ inl a ↦ inl (kept u v a) | inr b ↦ inr b ], λ dominates. kept u v (l.1 dominates))

settled_kept : (table : List (List ℕ)) (back more : List (ℕ × ℕ)) (order : List ℕ)
    → ((a b : ℕ) → Contains back (a, b) → Contains more (a, b))
    → IsSettled table back order → IsSettled table more order
settled_kept table back more [] kept s = tt
settled_kept table back more (u ∷ order) kept s = (λ v edge. looked_kept table back more order u v kept (s.0 v edge), settled_kept table back more order kept s.1)

module _ (table : List (List ℕ)) where
  -- a look at an edge from a node of the path: it is noted, or it leads to a node that was left
  IsSeen : List Bool → List ℕ → List (ℕ × ℕ) → ℕ → ℕ → Type 0
  IsSeen seen path back u v = (Contains back (u, v) ⊎ (IsMarked seen v × (Contains path v → ⊥))) × (Dominates (HasEdge table) v u → Contains back (u, v))

  -- What a visit of the node keeps, where it has looked at these of the nodes to which the node leads.
  pub record IsDescending (node : ℕ) (old seen : List Bool) (before path : List ℕ) (back more : List (ℕ × ℕ)) (looked : List ℕ) : Type 0 where
    pub path_is : path ≡ before ++ node ∷ []
    pub order : List ℕ
    pub descent : IsDescent table seen (before ++ node ∷ []) more order
    pub kept : (n : ℕ) → IsMarked old n → IsMarked seen n
    pub noted : (u h : ℕ) → Contains back (u, h) → Contains more (u, h)
    pub seen_all : (v : ℕ) → Contains looked v
        → (Contains more (node, v) ⊎ (IsMarked seen v × (Contains (before ++ node ∷ []) v → ⊥)))
        × (Dominates (HasEdge table) v node → Contains more (node, v))

  module _ (node : ℕ) (old : List Bool) (before : List ℕ) (back : List (ℕ × ℕ)) where
    -- at first, the node stands on the path
    pub descend_first : (order : List ℕ) → IsDescent table old before back order → get_or old node false ≡ false
        → node < length old
        → IsDescending node old (set old node true) before (before ++ node ∷ []) back back []
    descend_first order d clear inside = record {
      path_is = refl;
      order = order;
      descent = record {
        on_path = λ n there. elim (Contains-push_cases before node n there) [ inl a ↦ marked_kept old node n (d.on_path n a) | inr e ↦ subst (λ (m : ℕ). IsMarked (set old node true) m) e (marked_new old node inside) ];
        left = λ n there. marked_kept old node n (d.left n there);
        either = λ n is. elim (marked_either old node n is) [
          | inl a ↦ elim (d.either n a) [ inl p ↦ inl (Contains-append_left before (node ∷ []) n p) | inr q ↦ inr q ]
          | inr e ↦ inl (subst (λ (m : ℕ). Contains (before ++ node ∷ []) m) (sym e) (Contains-push before node))
        ];
        once = distinct_push before node d.once (λ there. both old node clear (d.on_path node there));
        settled = d.settled;
        backs = d.backs;
      };
      kept = λ n is. marked_kept old node n is;
      noted = λ u h there. there;
      seen_all = λ v none. absurd (no_member v none);
    }

    module _ (seen : List Bool) (path : List ℕ) (more : List (ℕ × ℕ)) (looked : List ℕ) (d : IsDescending node old seen before path back more looked) (next : ℕ) where
      -- a node without a mark does not lie on the path, so not on every walk to the node
      not_on_path : get_or seen next false ≡ false → Contains (before ++ node ∷ []) next → ⊥
      not_on_path clear there = both seen next clear (d.descent.on_path next there)

      -- it is visited
      pub descend_on : (seen_new : List Bool) (path_new : List ℕ) (most : List (ℕ × ℕ)) → get_or seen next false ≡ false
          → Walk (HasEdge table) 0 node (before ++ node ∷ [])
          → IsVisited table next seen seen_new path path_new more most → IsDescending node old seen_new before path_new back most (looked ++ next ∷ [])
      descend_on seen_new path_new most clear walk v = record {
        path_is = v.same ∙ d.path_is;
        order = v.order;
        descent = subst (λ (xs : List ℕ). IsDescent table seen_new xs most v.order) d.path_is v.descent;
        kept = λ n is. v.kept n (d.kept n is);
        noted = λ u h there. v.noted u h (d.noted u h there);
        seen_all = λ n there. elim (Contains-push_cases looked next n there) [
          | inl a ↦ let s = d.seen_all n a in (elim s.0 [ inl b ↦ inl (v.noted node n b) | inr (is, away) ↦ inr (v.kept n is, away) ], λ dominates. v.noted node n (s.1 dominates))
          | inr e ↦ subst (λ (m : ℕ). (Contains most (node, m) ⊎ (IsMarked seen_new m × (Contains (before ++ node ∷ []) m → ⊥))) × (Dominates (HasEdge table) m node → Contains most (node, m))) e
              (inr (v.here, not_on_path clear), λ dominates. absurd (not_on_path clear (dominates (before ++ node ∷ []) walk)))
        ];
      }

      -- the edge to it is looked at
      pub descend_over : (most : List (ℕ × ℕ)) → IsMarked seen next → HasEdge table node next
          → Walk (HasEdge table) 0 node path → IsChecked table path node next more most
          → IsDescending node old seen before path back most (looked ++ next ∷ [])
      descend_over most is edge walk (inl (dominates, e)) = subst (λ (xs : List (ℕ × ℕ)). IsDescending node old seen before path back xs (looked ++ next ∷ [])) (sym e) (record {
        path_is = d.path_is;
        order = d.order;
        descent = record {
          on_path = d.descent.on_path;
          left = d.descent.left;
          either = d.descent.either;
          once = d.descent.once;
          settled = settled_kept table more (more ++ (node, next) ∷ []) d.order (λ a b there. Contains-append_left more ((node, next) ∷ []) (a, b) there) d.descent.settled;
          backs = λ u h there. elim (Contains-push_cases more (node, next) (u, h) there) [
            | inl a ↦ d.descent.backs u h a
            | inr same ↦ let first : node ≡ u = ap (λ (x : ℕ × ℕ). x.0) same in let second : next ≡ h = ap (λ (x : ℕ × ℕ). x.1) same in subst (λ (m : ℕ). IsBackEdge (HasEdge table) u m) second (subst (λ (m : ℕ). IsBackEdge (HasEdge table) m next) first (edge, dominates))
          ];
        };
        kept = d.kept;
        noted = λ u h there. Contains-append_left more ((node, next) ∷ []) (u, h) (d.noted u h there);
        seen_all = λ n there. elim (Contains-push_cases looked next n there) [
          | inl a ↦ let s = d.seen_all n a in (
            elim s.0 [ inl b ↦ inl (Contains-append_left more ((node, next) ∷ []) (node, n) b) | inr far ↦ inr far ],
            λ over. Contains-append_left more ((node, next) ∷ []) (node, n) (s.1 over),
          )
          | inr same ↦ let here : Contains (more ++ (node, next) ∷ []) (node, n) = subst (λ (m : ℕ). Contains (more ++ (node, next) ∷ []) (node, m)) same (Contains-push more (node, next)) in (inl here, λ over. here)
        ];
      })
      descend_over most is edge walk (inr (away, e)) = subst (λ (xs : List (ℕ × ℕ)). IsDescending node old seen before path back xs (looked ++ next ∷ [])) (sym e) (record {
        path_is = d.path_is;
        order = d.order;
        descent = d.descent;
        kept = d.kept;
        noted = d.noted;
        seen_all = λ n there. elim (Contains-push_cases looked next n there) [
          | inl a ↦ d.seen_all n a
          | inr same ↦ subst (λ (m : ℕ). (Contains more (node, m) ⊎ (IsMarked seen m × (Contains (before ++ node ∷ []) m → ⊥))) × (Dominates (HasEdge table) m node → Contains more (node, m))) same
              (inr (is, λ there_now. away (subst (λ (xs : List ℕ). Contains xs next) (sym d.path_is) there_now)), λ over. absurd (away (over path walk)))
        ];
      })

    -- where all are looked at, the node is left
    pub descend_all : (seen : List Bool) (path after : List ℕ) (more : List (ℕ × ℕ))
        → IsDescending node old seen before path back more (get_or table node []) → after ≡ before
        → IsVisited table node old seen before after back more
    descend_all seen path after more d same = record {
      order = node ∷ d.order;
      descent = record {
        on_path = λ n there. d.descent.on_path n (Contains-append_left before (node ∷ []) n there);
        left = λ n there. elim (contains_cases node d.order n there) [ inl e ↦ subst (λ (m : ℕ). IsMarked seen m) (sym e) here | inr a ↦ d.descent.left n a ];
        either = λ n is. elim (d.descent.either n is) [
          | inl a ↦ elim (Contains-push_cases before node n a) [ inl b ↦ inl b | inr e ↦ inr (subst (λ (m : ℕ). Contains (node ∷ d.order) m) e (first_member node d.order)) ]
          | inr b ↦ inr (further_member node d.order n b)
        ];
        once = distinct_front before (node ∷ []) d.descent.once;
        settled = (settled, d.descent.settled);
        backs = d.descent.backs;
      };
      same = same;
      kept = d.kept;
      here = here;
      noted = d.noted;
    }
      where
        here : IsMarked seen node
        here = d.descent.on_path node (Contains-push before node)

        settled : (v : ℕ) → HasEdge table node v → IsLooked table more d.order node v
        settled v edge = let s = d.seen_all v edge in (
          elim s.0 [ inl a ↦ inl a | inr (is, away) ↦ elim (d.descent.either v is) [ inl there ↦ absurd (away there) | inr b ↦ inr b ] ],
          s.1,
        )

  -- ---- a crossing

  -- the path cut at a node with an edge from its end, and a walk round that node
  pub crossing_cut : (path to_header to_tail around : List ℕ) (node next at : ℕ) → Walk (HasEdge table) 0 node path
      → IsDistinct path → HasEdge table node next → at < length path
      → get_or path at 0 ≡ next → IsAround table node next around → to_header ≡ take (at + 1) path → to_tail ≡ drop at path → IsCrossing (HasEdge table) to_header to_tail around
  crossing_cut path to_header to_tail around node next at walk once edge low is round header tail =
      let front = take at path in
      let rest = drop (at + 1) path in
      let behind : drop at path ≡ next ∷ rest = drop_more path at 0 low ∙ ap (λ (n : ℕ). n ∷ rest) is in
      let whole : path ≡ front ++ next ∷ rest = sym (take-append-drop at path) ∙ ap (λ (xs : List ℕ). front ++ xs) behind in
      let upto : to_header ≡ front ++ next ∷ [] = header ∙ take_more path at 0 low ∙ ap (λ (n : ℕ). front ++ n ∷ []) is in
      let from : to_tail ≡ next ∷ rest = tail ∙ behind in
      let cut = split (HasEdge table) 0 node next front rest path walk whole in
      record {
        h = next;
        u = node;
        prefix = front;
        rest = rest;
        to_h = subst (λ (xs : List ℕ). Walk (HasEdge table) 0 next xs) (sym upto) cut.0;
        to_u = subst (λ (xs : List ℕ). Walk (HasEdge table) next node xs) (sym from) cut.1;
        leads_back = edge;
        past_h = round.walk;
        without_h = round.avoids;
        header_is = upto;
        tail_is = from;
        once = subst (λ (xs : List ℕ). IsDistinct xs) whole once;
      }

  -- ---- a walk past one mark

  module _ (to without : ℕ) (inside : without < length table) (marks : List Bool) (is : marks ≡ set (replicate (length table) false) without true) where
    only_one : (n : ℕ) → IsMarked marks n → n ≡ without
    only_one n there =
        elim (marked_either (replicate (length table) false) without n (subst (λ (xs : List Bool). IsMarked xs n) is there)) [ inl none ↦ absurd (none_marked (length table) n none) | inr e ↦ e ]

    -- where there is none, the node lies on every walk
    pub around_none : IsBarred (HasEdge table) marks 0 to → Dominates (HasEdge table) without to
    around_none bars = barred_by_one (HasEdge table) marks 0 to without only_one bars

    -- where there is one, it avoids the node
    pub around_found : (path : List ℕ) → IsPathPast (HasEdge table) marks 0 to path → IsAround table to without path
    around_found path past = record {
      walk = past.walk;
      avoids =
          λ at. past.avoids without at (subst (λ (xs : List Bool). IsMarked xs without) (sym is) (marked_new (replicate (length table) false) without (let long = length-replicate (length table) false in omega arith)));
    }

  -- ---- the whole walk

  -- before it begins
  pub descend_none : IsDescent table (replicate (length table) false) [] [] []
  descend_none = record {
    on_path = λ n there. absurd (no_member n there);
    left = λ n there. absurd (no_member n there);
    either = λ n is. absurd (none_marked (length table) n is);
    once = λ i j d before low. absurd (omega arith);
    settled = tt;
    backs = λ u h there. absurd (no_member (u, h) there);
  }

  module _ (seen : List Bool) (back : List (ℕ × ℕ)) (order : List ℕ) (d : IsDescent table seen [] back order) (first : IsMarked seen 0) where
    -- a marked node was left
    was_left : (n : ℕ) → IsMarked seen n → Contains order n
    was_left n is = elim (d.either n is) [ inl none ↦ absurd (no_member n none) | inr there ↦ there ]

    -- the edges from a node that was left
    edge_looked : (done : List ℕ) → IsSettled table back done → (u v : ℕ) → Contains done u → HasEdge table u v
        → (Contains back (u, v) ⊎ Contains done v) × (Dominates (HasEdge table) v u → Contains back (u, v))
    edge_looked [] s u v there edge = absurd (no_member u there)
    edge_looked (x ∷ done) s u v there edge =
        elim (contains_cases x done u there) [
          | inl e ↦ let l = s.0 v (subst (λ (m : ℕ). HasEdge table m v) e edge) in
              subst (λ (m : ℕ). (Contains back (m, v) ⊎ Contains (x ∷ done) v) × (Dominates (HasEdge table) v m → Contains back (m, v))) (sym e)
              (elim l.0 [ inl a ↦ inl a | inr b ↦ inr (further_member x done v b) ], l.1)
          | inr more ↦ let l = edge_looked done s.1 u v more edge in (elim l.0 [ inl a ↦ inl a | inr b ↦ inr (further_member x done v b) ], l.1)
        ]

    -- each node of a walk from node 0 is marked
    walk_marked : (u : ℕ) (path : List ℕ) → Walk (HasEdge table) 0 u path → (n : ℕ) → Contains path n → IsMarked seen n
    walk_marked u path stays n there = elim (contains_cases 0 [] n there) [ inl e ↦ subst (λ (m : ℕ). IsMarked seen m) (sym e) first | inr none ↦ absurd (no_member n none) ]
    walk_marked u path (goes_on {u = before} {v = v} {path = way} walk edge) n there =
        elim (Contains-push_cases way v n there) [
          | inl a ↦ walk_marked before way walk n a
          | inr e ↦ let l = edge_looked order d.settled before v (was_left before (walk_marked before way walk before (walk_ends (HasEdge table) 0 before way walk))) edge in
              subst (λ (m : ℕ). IsMarked seen m) e (elim l.0 [ inl noted ↦ walk_marked before way walk v ((d.backs before v noted).1 way walk) | inr left ↦ d.left v left ])
        ]

-- ---- numbers that fall

-- how many nodes were left up to the node, or 0 for one that was not left
abbrev pub height : List ℕ → ℕ → ℕ
height [] n = 0
height (x ∷ done) n = if height done n == 0 then (if x == n then suc (length done) else 0) else height done n

-- a node has its number still when others are left
height_old : (x : ℕ) (done : List ℕ) (n : ℕ) → (height done n == 0) ≡ false → height (x ∷ done) n ≡ height done n
height_old x done n e = rw e refl

height_new : (x : ℕ) (done : List ℕ) → (height done x == 0) ≡ true → height (x ∷ done) x ≡ suc (length done)
height_new x done e = rw (e, eq-eqb x x refl) refl

height_other : (x : ℕ) (done : List ℕ) (n : ℕ) → (height done n == 0) ≡ true → (x == n) ≡ false
    → height (x ∷ done) n ≡ 0
height_other x done n e other = rw (e, other) refl

height_low : (done : List ℕ) (n : ℕ) → height done n ≤ length done
height_low [] n = omega arith
height_low (x ∷ done) n = let low = height_low done n in
    by_test (height done n == 0)
    (λ e. by_test (x == n)
    (λ same. let is : height (x ∷ done) n ≡ suc (length done) = rw (e, same) refl in omega arith)
    (λ other. let is = height_other x done n e other in omega arith))
    (λ e. let is = height_old x done n e in omega arith)

-- a node that was left has a number above 0
height_left : (done : List ℕ) (n : ℕ) → Contains done n → (height done n == 0) ≡ false
height_left [] n there = absurd (no_member n there)
height_left (x ∷ done) n there =
    by_test (height done n == 0)
    (λ e. elim (contains_cases x done n there) [
      | inl same ↦ let is : height (x ∷ done) n ≡ suc (length done) = subst (λ (m : ℕ). height (x ∷ done) m ≡ suc (length done)) (sym same) (height_new x done (subst (λ (m : ℕ). (height done m == 0) ≡ true) same e)) in
          ne_eqb (height (x ∷ done) n) 0 (let apart : height (x ∷ done) n ≢ 0 = omega arith in apart)
      | inr more ↦ absurd (let again = height_left done n more in let k : true ≡ false = sym e ∙ again in cc)
    ])
    (λ e. rw (height_old x done n e) e)

-- and one with a number above 0 was left
left_height : (done : List ℕ) (n : ℕ) → (height done n == 0) ≡ false → Contains done n
left_height [] n e = absurd (let k : true ≡ false = e in cc)
left_height (x ∷ done) n e =
    by_test (height done n == 0)
    (λ zero_old. by_test (x == n)
    (λ same. subst (λ (m : ℕ). Contains (x ∷ done) m) (eqb-true x n same) (first_member x done))
    (λ other. absurd (let is = height_other x done n zero_old other in let k : true ≡ false = (rw is at e) in cc)))
    (λ old. further_member x done n (left_height done n old))

module _ (table : List (List ℕ)) (back : List (ℕ × ℕ)) where
  -- numbers fall along an edge that is not noted
  edge_falls : (done : List ℕ) → IsSettled table back done → (u v : ℕ) → Contains done u → HasEdge table u v
      → Contains back (u, v) ⊎ (Contains done v × (height done v < height done u))
  edge_falls [] s u v there edge = absurd (no_member u there)
  edge_falls (x ∷ done) s u v there edge =
      by_test (height done u == 0)
      (λ e. elim (contains_cases x done u there) [
        | inr more ↦ absurd (let again = height_left done u more in let k : true ≡ false = sym e ∙ again in cc)
        | inl same ↦
            let l = s.0 v (subst (λ (m : ℕ). HasEdge table m v) same edge) in
            elim l.0 [
              | inl noted ↦ inl (subst (λ (m : ℕ). Contains back (m, v)) (sym same) noted)
              | inr left ↦
                  let top : height (x ∷ done) x ≡ suc (length done) = height_new x done (subst (λ (m : ℕ). (height done m == 0) ≡ true) same e) in
                  let is = height_old x done v (height_left done v left) in
                  let low = height_low done v in
                  inr (further_member x done v left, subst (λ (m : ℕ). height (x ∷ done) v < height (x ∷ done) m) (sym same) (omega arith))
            ]
      ])
      (λ e.
      let is_u = height_old x done u e in
      elim (edge_falls done s.1 u v (left_height done u e) edge) [
        | inl noted ↦ inl noted
        | inr (left, lower) ↦ let is_v = height_old x done v (height_left done v left) in inr (further_member x done v left, omega arith)
      ])

  -- what the walk shows where it ends
  pub descend_done : (seen : List Bool) (order : List ℕ) → IsDescent table seen [] back order → IsMarked seen 0
      → ((u v : ℕ) → HasEdge table u v → (path : List ℕ) × Walk (HasEdge table) 0 u path) → IsBackList (HasEdge table) back × ((number : ℕ → ℕ) × IsFalling (HasEdge table) number)
  descend_done seen order d first reached = (record { backs = d.backs; all = all }, (height order, falls))
    where
      source_left : (u v : ℕ) → HasEdge table u v → Contains order u
      source_left u v edge = let way = reached u v edge in was_left table seen back order d first u (walk_marked table seen back order d first u way.0 way.1 u (walk_ends (HasEdge table) 0 u way.0 way.1))

      all : (u h : ℕ) → IsBackEdge (HasEdge table) u h → Contains back (u, h)
      all u h (edge, dominates) = (edge_looked table seen back order d first order d.settled u h (source_left u h edge) edge).1 dominates

      falls : (u v : ℕ) → HasEdge table u v → Dominates (HasEdge table) v u ⊎ (height order v < height order u)
      falls u v edge = elim (edge_falls order d.settled u v (source_left u v edge) edge) [ inl noted ↦ inl (d.backs u v noted).1 | inr (left, lower) ↦ inr lower ]
