-- What follows from the definitions on reducible graphs.
--   dominates_before      what dominates a node, and is not that node, dominates each node with an edge to it
--   dominates_itself      a node dominates itself
--   falling_reducible     where numbers fall along all edges but back edges, the graph is reducible
--   dominates_same, crossing_same, falling_same   two relations that say the same dominate, cross and fall alike
use Rattle.std.proofs.Common.{◌≡◌, ◌≢◌, ◌≤◌, ℕ, List, [], ◌∷◌, ◌++◌, inl, inr, Contains, ap, sym, ◌∙◌, subst, arith}
use Rattle.std.proofs.lemmas.List.{append_assoc}
use Rattle.std.proofs.lemmas.List.Elements.{Contains-append_left, Contains-push, Contains-push_cases}
use Rattle.std.proofs.lemmas.Bool.{cases_lt}
use Rattle.lists.specs.MemberLaws.{no_member, first_member, further_member}
use Rattle.graph_walks.specs.Walks.{Walk, stays, goes_on}
use Rattle.graph_walks.specs.ListLaws.{same_or_not, contains_cases, cut_at}
use Rattle.graph_walks.specs.WalkLaws.{walk_begins, walk_ends, split, walk_same}
use Rattle.domain_core.specs.Reducible.{Dominates, IsReducible, IsCrossing, IsFalling}

-- ---- dominance

module _ (Leads : ℕ → ℕ → Type 0) where
  -- what dominates a node, and is not that node, dominates each node with an edge to it
  pub dominates_before : (d u v : ℕ) → Leads u v → d ≢ v → Dominates Leads d v → Dominates Leads d u
  dominates_before d u v edge other dominates path way =
      elim (Contains-push_cases path v d (dominates (path ++ v ∷ []) (goes_on way edge))) [ inl there ↦ there | inr e ↦ absurd (other (sym e)) ]

  -- a node dominates itself
  pub dominates_itself : (d : ℕ) → Dominates Leads d d
  dominates_itself d path way = walk_ends Leads 0 d path way

  -- where domination goes backwards along each edge of a walk, it goes from its end to each of its nodes
  dominates_along : (d a b : ℕ) (path : List ℕ) → Walk Leads a b path
      → ((u v : ℕ) → Contains path u → Contains path v → Leads u v → Dominates Leads d v → Dominates Leads d u)
      → Dominates Leads d b → (n : ℕ) → Contains path n → Dominates Leads d n
  dominates_along d a b path stays back last n there =
      elim (contains_cases a [] n there) [ inl e ↦ subst (λ (m : ℕ). Dominates Leads d m) (sym e) last | inr none ↦ (no_member n none) ]
  dominates_along d a b path (goes_on {u = u} {v = v} {path = before} way edge) back last n there =
      elim (Contains-push_cases before v n there) [
        | inl earlier ↦
            dominates_along d a u before way (λ x y is_x is_y. back x y (Contains-append_left before (v ∷ []) x is_x) (Contains-append_left before (v ∷ []) y is_y))
            (back u v (Contains-append_left before (v ∷ []) u (walk_ends Leads a u before way)) (Contains-push before v) edge last) n earlier
        | inr e ↦ subst (λ (m : ℕ). Dominates Leads d m) e last
      ]

  -- a node of a list has the greatest number
  greatest : (number : ℕ → ℕ) (x : ℕ) (xs : List ℕ)
      → (d : ℕ) × Contains (x ∷ xs) d × ((n : ℕ) → Contains (x ∷ xs) n → number n ≤ number d)
  greatest number x [] = (x, first_member x [], λ n there. elim (contains_cases x [] n there) [ inl e ↦ rw e (omega arith) | inr none ↦ (no_member n none) ])
  greatest number x (y ∷ xs) =
      let r = greatest number y xs in
      elim (cases_lt (number x) (number r.0)) [
        | inl low ↦ (r.0, further_member x (y ∷ xs) r.0 r.1, λ n there. elim (contains_cases x (y ∷ xs) n there) [ inl e ↦ rw e (omega arith) | inr more ↦ r.2 n more ])
        | inr high ↦ (x, first_member x (y ∷ xs), λ n there. elim (contains_cases x (y ∷ xs) n there) [ inl e ↦ rw e (omega arith) | inr more ↦ let low = r.2 n more in omega arith ])
      ]

  -- where numbers fall along all edges but back edges, the graph is reducible
  pub falling_reducible : (number : ℕ → ℕ) → IsFalling Leads number → IsReducible Leads
  falling_reducible number falls u v [] way closes = (no_member v (walk_begins Leads v u [] way))
  falling_reducible number falls u v (x ∷ xs) way closes =
      let top = greatest number x xs in
      let d = top.0 in
      let path = x ∷ xs in
      let cut = cut_at path d top.1 in
      let first = (split Leads v u d cut.0 cut.1 path way cut.2).0 in
      let within : (n : ℕ) → Contains (cut.0 ++ d ∷ []) n → Contains path n = inside d cut.0 cut.1 path cut.2 in
      let d_v : Dominates Leads d v =
      dominates_along d v d (cut.0 ++ d ∷ []) first (λ a b is_a is_b edge. step d a b (top.2 a (within a is_a)) edge) (dominates_itself d) v (walk_begins Leads v d (cut.0 ++ d ∷ []) first) in
      let d_u : Dominates Leads d u = step d u v (top.2 u (walk_ends Leads v u path way)) closes d_v in
      (d, top.1, dominates_along d v u path way (λ a b is_a is_b edge. step d a b (top.2 a is_a) edge) d_u)
    where
      -- against an edge that does not begin higher than d
      step : (d a b : ℕ) → number a ≤ number d → Leads a b → Dominates Leads d b → Dominates Leads d a
      step d a b high edge dominates =
          elim (falls a b edge) [
            | inl back ↦ elim (same_or_not d b) [ inl e ↦ subst (λ (n : ℕ). Dominates Leads n a) (sym e) back | inr other ↦ dominates_before d a b edge other dominates ]
            | inr lower ↦ dominates_before d a b edge (λ e. let same : number d ≡ number b = ap number e in omega arith) dominates
          ]

      -- the prefix of a walk lies in it
      inside : (d : ℕ) (prefix rest path : List ℕ) → path ≡ prefix ++ d ∷ rest → (n : ℕ) → Contains (prefix ++ d ∷ []) n
          → Contains path n
      inside d prefix rest path e n there =
          let whole : (prefix ++ d ∷ []) ++ rest ≡ path = append_assoc prefix (d ∷ []) rest ∙ sym e in
          subst (λ (ys : List ℕ). Contains ys n) whole (Contains-append_left (prefix ++ d ∷ []) rest n there)

-- ---- two relations that say the same

module _ (Leads Other : ℕ → ℕ → Type 0) (to : (u v : ℕ) → Leads u v → Other u v) where
  -- what dominates by the other dominates by the one
  pub dominates_same : (h u : ℕ) → Dominates Other h u → Dominates Leads h u
  dominates_same h u dominates path way = dominates path (walk_same Leads Other to 0 u path way)

  -- and so do three walks that cross
  pub crossing_same : (a b c : List ℕ) → IsCrossing Leads a b c → IsCrossing Other a b c
  crossing_same a b c x = record {
    h = x.h;
    u = x.u;
    prefix = x.prefix;
    rest = x.rest;
    to_h = walk_same Leads Other to 0 x.h a x.to_h;
    to_u = walk_same Leads Other to x.h x.u b x.to_u;
    leads_back = to x.u x.h x.leads_back;
    past_h = walk_same Leads Other to 0 x.u c x.past_h;
    without_h = x.without_h;
    header_is = x.header_is;
    tail_is = x.tail_is;
    once = x.once;
  }

-- numbers that fall for the one fall for the other
pub falling_same : (Leads Other : ℕ → ℕ → Type 0) → ((u v : ℕ) → Leads u v → Other u v)
    → ((u v : ℕ) → Other u v → Leads u v) → (number : ℕ → ℕ)
    → IsFalling Leads number → IsFalling Other number
falling_same Leads Other to from number falls u v edge =
    elim (falls u v (from u v edge)) [ inl back ↦ inl (dominates_same Other Leads from v u back) | inr low ↦ inr low ]
