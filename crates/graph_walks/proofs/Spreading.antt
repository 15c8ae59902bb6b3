-- What the search keeps, from its first step to its end.
use Rattle.std.proofs.Common.{◌≡◌, ◌<◌, ◌+◌, ◌-◌, ℕ, zero, suc, Bool, true, false, List, [], ◌∷◌, ◌++◌, ◌⊎◌, inl, inr, Option, Some, None, Result, Ok, Err, Vec, Global, IfOk, IfNone, MatchOption, get_or, set, replicate, length, length-append, length-set, get_or-set_same, get_or-set_other, Contains, refl, ap, sym, ◌∙◌, subst, arith}
use Rattle.std.specs.declared.alloc.AllocError.{AllocError}
use Rattle.std.proofs.lemmas.Bool.{cases_lt}
use Rattle.std.proofs.lemmas.List.{same_from_push, append_assoc, length-replicate}
use Rattle.std.proofs.lemmas.List.Elements.{Contains-append_left, Contains-push, Contains-push_cases, Contains-get_or}
use Rattle.std.proofs.lemmas.List.Sums.{count_by-le-length}
use Rattle.lists.specs.MemberLaws.{no_member}
use Rattle.graph_walks.specs.Walks.{Walk, stays, goes_on, IsDistinct}
use Rattle.graph_walks.specs.Tables.{HasEdge, IsClosed}
use Rattle.graph_walks.specs.MarkedNodes.{IsMarked, marked_count, ReachesPast, IsBarred}
use Rattle.graph_walks.specs.ListLaws.{same_or_not, contains_cases, distinct_push, distinct_front, same_default}
use Rattle.graph_walks.proofs.ListLemmas.{distinct_one}
use Rattle.graph_walks.specs.WalkLaws.{split}
use Rattle.graph_walks.specs.MarkedNodeLaws.{by_mark, both, marked_low, marked_kept, marked_either, marked_new, marked_set}
use Rattle.graph_walks.specs.Searching.{IsFresh, IsSpread, IsMet, GoesOn, GoesBack, IsSearch}

-- no place is looked at where none is noted
none_looked : (count n : ℕ) → get_or (replicate count 0) n 0 ≡ zero
none_looked zero n = refl
none_looked (suc count) zero = refl
none_looked (suc count) (suc n) = none_looked count n

-- a list that ends with an element is not empty
ends_not : (front : List ℕ) (last : ℕ) → [] ≡ front ++ last ∷ [] → ⊥
ends_not front last e = let long = ap length e in let more = length-append front (last ∷ []) in omega arith

module _ (table : List (List ℕ)) (old : List Bool) (from : ℕ) (goal : Option ℕ) where
  -- at first the node alone is marked, and the path is that node
  pub search_first : from < length table → length old ≡ length table → get_or old from false ≡ false → (looked : List ℕ)
      → looked ≡ replicate (length table) 0
      → IsSearch table old from goal (set old from true) looked (from ∷ [])
  search_first inside long clear looked is = record {
    long = length-set old from true ∙ long;
    rows = ap length is ∙ length-replicate (length table) 0;
    kept = marked_kept old from;
    here = marked_new old from (omega arith);
    reached = λ n marked new. elim (marked_either old from n marked) [ inl before ↦ absurd (new before) | inr e ↦ subst (λ (k : ℕ). ReachesPast (HasEdge table) old from k) (sym e) way_here ];
    walk = λ front last e. let same = same_from_push [] front from last e in
        subst (λ (k : ℕ). Walk (HasEdge table) from k (from ∷ [])) same.1 stays;
    once = distinct_one from;
    fresh = λ n there. elim (contains_cases from [] n there) [
      | inl e ↦ subst (λ (k : ℕ). IsMarked (set old from true) k × (IsMarked old k → ⊥)) (sym e) (marked_new old from (omega arith), both old from clear)
      | inr none ↦ no_member n none
    ];
    left = λ n to marked new edge. elim (marked_either old from n marked) [ inl before ↦ absurd (new before) | inr e ↦ inl (subst (λ (k : ℕ). Contains (from ∷ []) k) (sym e) (Contains-push [] from)) ];
    looked_at = λ n k low inside. absurd (let none = ap (λ (xs : List ℕ). get_or xs n 0) is ∙ none_looked (length table) n in omega arith);
    missed = λ n is_goal marked new. elim (marked_either old from n marked) [ inl before ↦ absurd (new before) | inr e ↦ ([], ap (λ (k : ℕ). k ∷ []) (sym e)) ];
  }
    where
      way_here : ReachesPast (HasEdge table) old from from
      way_here = record {
        path = from ∷ [];
        walk = stays;
        avoids = λ n there is_old. elim (contains_cases from [] n there) [ inl e ↦ both old from clear (subst (λ (k : ℕ). IsMarked old k) e is_old) | inr none ↦ no_member n none ];
      }

  module _ (marks : List Bool) (looked path front : List ℕ) (node : ℕ) (s : IsSearch table old from goal marks looked path) (ends : path ≡ front ++ node ∷ []) where
    -- the node at which the search stands is one of the table
    pub stands_low : node < length table
    stands_low =
        let there : Contains path node = subst (λ (xs : List ℕ). Contains xs node) (sym ends) (Contains-push front node) in
        let low = marked_low marks node (s.fresh node there).0 in
        let long = s.long in omega arith

    -- where it is the goal, the path is the answer
    pub search_met : goal ≡ Some node → IsMet table old from goal path
    search_met is_goal = record {
      last = node;
      is_goal = is_goal;
      leads = record { walk = s.walk front node ends; once = s.once; avoids = λ n there. (s.fresh n there).1 };
    }

    module _ (other : goal ≡ Some node → ⊥) where
      -- so the goal is not marked yet
      not_met : (n : ℕ) → goal ≡ Some n → IsMarked marks n → (IsMarked old n → ⊥) → ⊥
      not_met n is_goal marked new =
          let last = s.missed n is_goal marked new in
          let same = same_from_push front last.0 node n (sym ends ∙ last.1) in
          other (is_goal ∙ ap (λ (k : ℕ). Some k) (sym same.1))

      -- the search goes on to a node without a mark
      pub search_on : IsClosed table → (m : List Bool) (l p : List ℕ)
          → GoesOn (get_or table node []) node marks looked path m l p → IsSearch table old from goal m l p
      search_on closed m l p g =
          subst (λ (xs : List ℕ). IsSearch table old from goal m l xs) (sym g.longer)
          (subst (λ (xs : List ℕ). IsSearch table old from goal m xs (path ++ get_or (get_or table node []) g.place 0 ∷ [])) (sym g.noted)
          (subst (λ (xs : List Bool). IsSearch table old from goal xs (set looked node g.place) (path ++ get_or (get_or table node []) g.place 0 ∷ [])) (sym g.marked)
          (gone_on g.place g.is_fresh (get_or (get_or table node []) g.place 0) refl (Contains-get_or (get_or table node []) g.place 0 g.is_fresh.within))))
        where
          gone_on : (place : ℕ) → IsFresh (get_or table node []) marks (get_or looked node 0) place → (next : ℕ)
              → next ≡ get_or (get_or table node []) place 0 → HasEdge table node next
              → IsSearch table old from goal (set marks next true) (set looked node place) (path ++ next ∷ [])
          gone_on place is_fresh next is edge = record {
            long = length-set marks next true ∙ s.long;
            rows = length-set looked node place ∙ s.rows;
            kept = λ n marked. marked_kept marks next n (s.kept n marked);
            here = marked_kept marks next from s.here;
            reached = λ n marked new. elim (marked_either marks next n marked) [
              | inl before ↦ s.reached n before new
              | inr e ↦ subst (λ (k : ℕ). ReachesPast (HasEdge table) old from k) (sym e) way_on
            ];
            walk = λ before last e. let same = same_from_push path before next last e in
                subst (λ (k : ℕ). Walk (HasEdge table) from k (path ++ next ∷ [])) same.1 (goes_on (s.walk front node ends) edge);
            once = distinct_push path next s.once (λ there. clear (s.fresh next there).0);
            fresh = λ n there. elim (Contains-push_cases path next n there) [
              | inl before ↦ let f = s.fresh n before in (marked_kept marks next n f.0, f.1)
              | inr e ↦ subst (λ (k : ℕ). IsMarked (set marks next true) k × (IsMarked old k → ⊥)) e (marked_new marks next next_low, new_next)
            ];
            left = λ n to marked new leads. elim (marked_either marks next n marked) [
              | inl before ↦ elim (s.left n to before new leads) [ inl there ↦ inl (Contains-append_left path (next ∷ []) n there) | inr done ↦ inr (marked_kept marks next to done) ]
              | inr e ↦ inl (subst (λ (k : ℕ). Contains (path ++ next ∷ []) k) (sym e) (Contains-push path next))
            ];
            looked_at = λ n k low inside. marked_kept marks next (get_or (get_or table n []) k 0) (looked_on n k low inside);
            missed = λ n is_goal marked new. elim (marked_either marks next n marked) [
              | inl before ↦ absurd (not_met n is_goal before new)
              | inr e ↦ (path, ap (λ (k : ℕ). path ++ k ∷ []) (sym e))
            ];
          }
            where
              clear : IsMarked marks next → ⊥
              clear marked = both marks (get_or (get_or table node []) place 0) is_fresh.clear (subst (λ (k : ℕ). IsMarked marks k) is marked)

              next_low : next < length marks
              next_low = let low = closed node next edge in let long = s.long in omega arith

              new_next : IsMarked old next → ⊥
              new_next was = clear (s.kept next was)

              way_on : ReachesPast (HasEdge table) old from next
              way_on = record {
                path = path ++ next ∷ [];
                walk = goes_on (s.walk front node ends) edge;
                avoids = λ n there was. elim (Contains-push_cases path next n there) [
                  | inl before ↦ (s.fresh n before).1 was
                  | inr e ↦ new_next (subst (λ (k : ℕ). IsMarked old k) (sym e) was)
                ];
              }

              looked_on : (n k : ℕ) → k < get_or (set looked node place) n 0 → k < length (get_or table n [])
                  → IsMarked marks (get_or (get_or table n []) k 0)
              looked_on n k low inside = elim (same_or_not n node) [
                | inr apart ↦ s.looked_at n k (let same = get_or-set_other looked node n place 0 apart in omega arith) inside
                | inl e ↦ subst (λ (i : ℕ). IsMarked marks (get_or (get_or table i []) k 0)) (sym e) (elim (cases_lt k (get_or looked node 0)) [
                  | inl before ↦ s.looked_at node k before (subst (λ (i : ℕ). k < length (get_or table i [])) e inside)
                  | inr after ↦ is_fresh.before k after (
                      let room = stands_low in
                      let long = s.rows in
                      let same = get_or-set_same looked node place 0 (omega arith) in
                      let is_low : k < get_or (set looked node place) node 0 = subst (λ (i : ℕ). k < get_or (set looked node place) i 0) e low in
                      omega arith
                      )
                ])
              ]

      -- or back, where all to which the node leads is marked
      pub search_back : (m : List Bool) (l p : List ℕ) → GoesBack (get_or table node []) node marks looked path m l p
          → IsSearch table old from goal m l p
      search_back m l p g =
          subst (λ (xs : List ℕ). IsSearch table old from goal m l xs) (sym (g.shorter front node ends))
          (subst (λ (xs : List ℕ). IsSearch table old from goal m xs front) (sym g.same_looked)
          (subst (λ (xs : List Bool). IsSearch table old from goal xs looked front) (sym g.same_marks) gone_back))
        where
          -- each node to which it leads is marked
          all_marked : (to : ℕ) → HasEdge table node to → IsMarked marks to
          all_marked to edge =
              let is : get_or (get_or table node []) edge.0 0 ≡ to = same_default (get_or table node []) edge.0 0 to edge.1 ∙ edge.2 in
              subst (λ (k : ℕ). IsMarked marks k) is (elim (cases_lt edge.0 (get_or looked node 0)) [ inl before ↦ s.looked_at node edge.0 before edge.1 | inr after ↦ g.all edge.0 after edge.1 ])

          gone_back : IsSearch table old from goal marks looked front
          gone_back = record {
            long = s.long;
            rows = s.rows;
            kept = s.kept;
            here = s.here;
            reached = s.reached;
            walk = λ before last e.
                let is : path ≡ before ++ last ∷ node ∷ [] = ends ∙ ap (λ (xs : List ℕ). xs ++ node ∷ []) e ∙ append_assoc before (last ∷ []) (node ∷ []) in
                subst (λ (xs : List ℕ). Walk (HasEdge table) from last xs) (sym e) (split (HasEdge table) from node last before (node ∷ []) path (s.walk front node ends) is).0;
            once = distinct_front front (node ∷ []) (subst (λ (xs : List ℕ). IsDistinct xs) ends s.once);
            fresh = λ n there. s.fresh n (subst (λ (xs : List ℕ). Contains xs n) (sym ends) (Contains-append_left front (node ∷ []) n there));
            left = λ n to marked new edge. elim (s.left n to marked new edge) [
              | inr done ↦ inr done
              | inl there ↦ elim (Contains-push_cases front node n (subst (λ (xs : List ℕ). Contains xs n) ends there)) [
                | inl before ↦ inl before
                | inr e ↦ inr (all_marked to (subst (λ (k : ℕ). HasEdge table k to) (sym e) edge))
              ]
            ];
            looked_at = s.looked_at;
            missed = λ n is_goal marked new. absurd (not_met n is_goal marked new);
          }

  -- where the path is empty, the marks have spread
  pub search_over : (marks : List Bool) (looked : List ℕ) → IsSearch table old from goal marks looked []
      → IsSpread table old from goal marks
  search_over marks looked s = record {
    here = s.here;
    closed = λ n to marked new edge. elim (s.left n to marked new edge) [ inl there ↦ no_member n there | inr done ↦ done ];
    missed = λ n is_goal marked. by_mark old n (λ was. was) (λ new. let last = s.missed n is_goal marked new in absurd (ends_not last.0 n last.1));
  }

  -- marks that have spread hold the end of each walk that no old mark bars
  pub spread_along : (new : List Bool) → IsSpread table old from goal new → (n : ℕ) (path : List ℕ)
      → Walk (HasEdge table) from n path
      → ((m : ℕ) × Contains path m × IsMarked old m) ⊎ (IsMarked new n × (IsMarked old n → ⊥))
  spread_along new s n path stays = by_mark old from (λ was. inl (from, Contains-push [] from, was)) (λ clear. inr (s.here, clear))
  spread_along new s n path (goes_on {u = u} {v = v} {path = before} way edge) = elim (spread_along new s u before way) [
    | inl met ↦ inl (met.0, Contains-append_left before (v ∷ []) met.0 met.1, met.2)
    | inr (marked, clear) ↦ by_mark old v (λ was. inl (v, Contains-push before v, was)) (λ free. inr (s.closed u v marked clear edge, free))
  ]

  -- so they hold what is reached past the old marks
  pub spread_all : (new : List Bool) → IsSpread table old from goal new → (n : ℕ)
      → ReachesPast (HasEdge table) old from n → IsMarked new n
  spread_all new s n way = elim (spread_along new s n way.path way.walk) [ inl met ↦ absurd (way.avoids met.0 met.1 met.2) | inr here ↦ here.0 ]

  -- and where the goal was not met, each walk to it is barred
  pub spread_barred : (new : List Bool) (to : ℕ) → goal ≡ Some to → IsSpread table old from goal new
      → IsBarred (HasEdge table) old from to
  spread_barred new to is_goal s path walk = elim (spread_along new s to path walk) [ inl met ↦ met | inr (marked, clear) ↦ absurd (clear (s.missed to is_goal marked)) ]

-- how far a search has to go: twice the nodes without a mark, and once the path
abbrev pub left_to_go : List Bool → List ℕ → ℕ
left_to_go marks path = (length marks - marked_count marks) + (length marks - marked_count marks) + length path

-- it falls where the search goes on
pub on_falls : (row : List ℕ) (node : ℕ) (marks : List Bool) (looked path : List ℕ) (m : List Bool) (l p : List ℕ)
    → GoesOn row node marks looked path m l p
    → ((k : ℕ) → k < length row → get_or row k 0 < length marks) → left_to_go m p < left_to_go marks path
on_falls row node marks looked path m l p g inside =
    let next = get_or row g.place 0 in
    let more : marked_count m ≡ suc (marked_count marks) = ap marked_count g.marked ∙ marked_set marks next (inside g.place g.is_fresh.within) g.is_fresh.clear in
    let long : length m ≡ length marks = ap length g.marked ∙ length-set marks next true in
    let most = count_by-le-length (λ (mark : Bool). mark) m in
    let longer : length p ≡ length path + 1 = ap length g.longer ∙ length-append path (next ∷ []) in
    omega arith

-- and where it goes back
pub back_falls : (row : List ℕ) (node : ℕ) (marks : List Bool) (looked path front : List ℕ) → path ≡ front ++ node ∷ []
    → (m : List Bool) (l p : List ℕ)
    → GoesBack row node marks looked path m l p → left_to_go m p < left_to_go marks path
back_falls row node marks looked path front ends m l p g =
    let shorter = ap length (g.shorter front node ends) in
    let long : length path ≡ length front + 1 = ap length ends ∙ length-append front (node ∷ []) in
    let same = ap marked_count g.same_marks in
    let size = ap length g.same_marks in
    omega arith

-- a search without a goal has spread its marks
pub spread_found : (table : List (List ℕ)) (old : List Bool) (from : ℕ) (new : List Bool) (found : Option (Vec ℕ Global))
    → MatchOption found (IsSpread table old from None new) (λ path. IsMet table old from None path.items) → IsSpread table old from None new
spread_found table old from new None spread = spread
spread_found table old from new (Some path) met = absurd (let e = met.is_goal in cc)

-- and one that has not met its goal shows that each walk to it is barred
pub barred_found : (table : List (List ℕ)) (old marks : List Bool) (from to : ℕ) (new : List Bool) → old ≡ marks
    → (result : Result (Option (Vec ℕ Global)) AllocError)
    → IfOk result (λ found. MatchOption found (IsSpread table old from (Some to) new) (λ path. IsMet table old from (Some to) path.items))
    → IfOk result (λ found. IfNone found (IsBarred (HasEdge table) marks from to))
barred_found table old marks from to new same (Ok None) spread =
    subst (λ (xs : List Bool). IsBarred (HasEdge table) xs from to) same (spread_barred table old from (Some to) new to refl spread)
barred_found table old marks from to new same (Ok (Some path)) met = tt
barred_found table old marks from to new same (Err e) none = tt
