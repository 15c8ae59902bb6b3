-- Marks of a loop's body.
use Rattle.std.proofs.Common.{◌≡◌, ◌≢◌, ◌<◌, ◌≤◌, ◌+◌, ℕ, Bool, true, false, List, [], ◌∷◌, ◌++◌, ◌⊎◌, inl, inr, Contains, get_or, set, replicate, length, length-set, ap, sym, ◌∙◌, subst, arith}
use Rattle.std.proofs.lemmas.Bool.{cases_lt}
use Rattle.std.proofs.lemmas.List.{length-replicate, get_or_default}
use Rattle.std.proofs.lemmas.List.Elements.{Contains-append_left, Contains-push, Contains-push_cases}
use Rattle.lists.specs.MemberLaws.{no_member}
use Rattle.graph_walks.specs.Walks.{Walk, stays, goes_on}
use Rattle.graph_walks.specs.WalkLaws.{walk_cons, walk_ends}
use Rattle.graph_walks.specs.ListLaws.{contains_cases}
use Rattle.domain_core.specs.Scopes.{Plan, leads, IsBody}
use Rattle.graph_walks.specs.Tables.{HasEdge}
use Rattle.graph_walks.specs.MarkedNodes.{IsMarked, KeepsMarks, ReachesPast}
use Rattle.scope_graph.specs.Descending.{IsBackList}
use Rattle.scope_graph.specs.LoopBodies.{ReturnsBack, IsBackward}
use Rattle.graph_walks.specs.MarkedNodeLaws.{by_mark, none_marked, marked_either, marked_new}

-- what is kept while the sources below k are looked at
pub record IsMarking (table : List (List ℕ)) (back : List (ℕ × ℕ)) (h : ℕ) (seen : List Bool) (k : ℕ) : Type 0 where
  pub long : length seen ≡ length table
  pub top : IsMarked seen h
  pub marked : (n : ℕ) → IsMarked seen n → (n ≡ h) ⊎ ReturnsBack table back h n
  pub closed : (n to : ℕ) → IsMarked seen n → n ≢ h → HasEdge table n to → IsMarked seen to
  pub sources : (j : ℕ) → j < k → (get_or back j (0, 0)).1 ≡ h → IsMarked seen (get_or back j (0, 0)).0

module _ (table : List (List ℕ)) (back : List (ℕ × ℕ)) (h : ℕ) where
  -- at first the header alone is marked
  pub marking_first : h < length table → (seen : List Bool) → seen ≡ set (replicate (length table) false) h true
      → IsMarking table back h seen 0
  marking_first low seen is = subst (λ (xs : List Bool). IsMarking table back h xs 0) (sym is) (record {
    long = length-set (replicate (length table) false) h true ∙ length-replicate (length table) false;
    top = (let long = length-replicate (length table) false in marked_new (replicate (length table) false) h (omega arith));
    marked = λ n there. inl (only n there);
    closed = λ n to there other edge. absurd (other (only n there));
    sources = λ j before. absurd (omega arith);
  })
    where
      only : (n : ℕ) → IsMarked (set (replicate (length table) false) h true) n → n ≡ h
      only n there = elim (marked_either (replicate (length table) false) h n there) [ inl none ↦ absurd (none_marked (length table) n none) | inr e ↦ e ]

  module _ (seen : List Bool) (k : ℕ) (m : IsMarking table back h seen k) where
    -- one edge more is looked at
    pub marking_over : ((get_or back k (0, 0)).1 ≡ h → IsMarked seen (get_or back k (0, 0)).0)
        → IsMarking table back h seen (k + 1)
    marking_over now = record {
      long = m.long;
      top = m.top;
      marked = m.marked;
      closed = m.closed;
      sources = λ j before to. elim (cases_lt j k) [
        | inl old ↦ m.sources j old to
        | inr new ↦ let same : j ≡ k = omega arith in subst (λ (i : ℕ). IsMarked seen (get_or back i (0, 0)).0) (sym same) (now (subst (λ (i : ℕ). (get_or back i (0, 0)).1 ≡ h) same to))
      ];
    }

    -- and its source is searched from
    pub marking_more : (new : List Bool) → k < length back → (get_or back k (0, 0)).1 ≡ h → length new ≡ length seen
        → KeepsMarks seen new
        → ((n : ℕ) → IsMarked new n → IsMarked seen n ⊎ ReachesPast (HasEdge table) seen (get_or back k (0, 0)).0 n) → ((n : ℕ) → ReachesPast (HasEdge table) seen (get_or back k (0, 0)).0 n → IsMarked new n)
        → IsMarking table back h new (k + 1)
    marking_more new inside to long kept reached every = record {
      long = long ∙ m.long;
      top = kept h m.top;
      marked = λ n there. elim (reached n there) [
        | inl old ↦ m.marked n old
        | inr way ↦ inr (record {
          source = source;
          path = way.path;
          noted = (k, inside, get_or_default back k (source, h) (0, 0) inside ∙ ap (λ (i : ℕ). (source, i)) to);
          walk = way.walk;
          avoids = λ at. way.avoids h at m.top;
        })
      ];
      closed = λ n next there other edge. elim (reached n there) [
        | inl old ↦ kept next (m.closed n next old other edge)
        | inr way ↦ by_mark seen next (λ was. kept next was) (λ clear. every next (further n next way edge clear))
      ];
      sources = λ j before to_j. elim (cases_lt j k) [
        | inl old ↦ kept _ (m.sources j old to_j)
        | inr latest ↦ let same : j ≡ k = omega arith in subst (λ (i : ℕ). IsMarked new (get_or back i (0, 0)).0) (sym same) (by_mark seen source (λ was. kept source was) (λ clear. every source (alone clear)))
      ];
    }
      where
        source : ℕ
        source = (get_or back k (0, 0)).0

        further : (n next : ℕ) → ReachesPast (HasEdge table) seen source n → HasEdge table n next
            → (IsMarked seen next → ⊥) → ReachesPast (HasEdge table) seen source next
        further n next way edge clear = record {
          path = way.path ++ next ∷ [];
          walk = goes_on way.walk edge;
          avoids = λ i there is. elim (Contains-push_cases way.path next i there) [ inl earlier ↦ way.avoids i earlier is | inr e ↦ clear (subst (λ (j : ℕ). IsMarked seen j) (sym e) is) ];
        }

        alone : (IsMarked seen source → ⊥) → ReachesPast (HasEdge table) seen source source
        alone clear = record {
          path = source ∷ [];
          walk = stays;
          avoids = λ i there is. elim (contains_cases source [] i there) [ inl e ↦ clear (subst (λ (j : ℕ). IsMarked seen j) e is) | inr none ↦ no_member i none ];
        }

  -- where all are looked at, the marks are done
  pub marking_done : (seen : List Bool) (k : ℕ) → length back ≤ k → IsMarking table back h seen k
      → IsBackward table back h seen
  marking_done seen k done m = record { long = m.long; marked = m.marked; all = all }
    where
      along : (u n : ℕ) (path : List ℕ) → IsMarked seen u → Walk (HasEdge table) u n path → (Contains path h → ⊥)
          → IsMarked seen n
      along u n path first stays avoids = first
      along u n path first (goes_on {u = x} {v = v} {path = before} walk edge) avoids =
          let there = along u x before first walk (λ at. avoids (Contains-append_left before (v ∷ []) h at)) in
          m.closed x v there (λ e. avoids (Contains-append_left before (v ∷ []) h (subst (λ (i : ℕ). Contains before i) e (walk_ends (HasEdge table) u x before walk)))) edge

      all : (n : ℕ) → (n ≡ h) ⊎ ReturnsBack table back h n → IsMarked seen n
      all n (inl e) = subst (λ (i : ℕ). IsMarked seen i) (sym e) m.top
      all n (inr r) =
          let j = r.noted.0 in
          let inside : j < length back = r.noted.1 in
          let is : get_or back j (0, 0) ≡ (r.source, h) = get_or_default back j (0, 0) (r.source, h) inside ∙ r.noted.2 in
          let first = m.sources j (omega arith) (ap (λ (x : ℕ × ℕ). x.1) is) in
          along r.source n r.path (subst (λ (x : ℕ × ℕ). IsMarked seen x.0) is first) r.walk r.avoids

-- ---- along the edges again

-- a walk read from its end
pub turned : (Leads Other : ℕ → ℕ → Type 0) → ((u v : ℕ) → Leads u v → Other v u) → (a b : ℕ) (path : List ℕ)
    → Walk Leads a b path
    → (way : List ℕ) × Walk Other b a way × ((n : ℕ) → Contains way n → Contains path n)
turned Leads Other to a b path stays = (a ∷ [], stays, λ n there. there)
turned Leads Other to a b path (goes_on {u = u} {v = v} {path = before} walk edge) =
    let r = turned Leads Other to a u before walk in (
      v ∷ r.0,
      walk_cons Other v u a r.0 (to u v edge) r.1,
      λ n there. elim (contains_cases v r.0 n there) [
        | inl e ↦ subst (λ (i : ℕ). Contains (before ++ v ∷ []) i) (sym e) (Contains-push before v)
        | inr more ↦ Contains-append_left before (v ∷ []) n (r.2 n more)
      ],
    )

-- what is marked is the body of the loop
pub body_marks : (plan : Plan) (table : List (List ℕ)) (back : List (ℕ × ℕ)) (h : ℕ) (seen : List Bool)
    → IsBackList (leads plan) back
    → ((u v : ℕ) → HasEdge table u v → leads plan v u) → ((u v : ℕ) → leads plan u v → HasEdge table v u) → IsBackward table back h seen
    → ((n : ℕ) → IsMarked seen n → IsBody plan h n) × ((n : ℕ) → IsBody plan h n → IsMarked seen n)
body_marks plan table back h seen noted there all b = (is_body, has_body)
  where
    is_body : (n : ℕ) → IsMarked seen n → IsBody plan h n
    is_body n at = elim (b.marked n at) [
      | inl e ↦ inl e
      | inr r ↦ let way = turned (HasEdge table) (leads plan) there r.source n r.path r.walk in
          inr (record { source = r.source; way = way.0; back = noted.backs r.source h r.noted; walk = way.1; avoids = λ at_h. r.avoids (way.2 h at_h) })
    ]

    has_body : (n : ℕ) → IsBody plan h n → IsMarked seen n
    has_body n (inl e) = b.all n (inl e)
    has_body n (inr r) =
        let way = turned (leads plan) (HasEdge table) all n r.source r.way r.walk in
        b.all n (inr (record { source = r.source; path = way.0; noted = noted.all r.source h r.back; walk = way.1; avoids = λ at_h. r.avoids (way.2 h at_h) }))
