-- Forward edges, and the table of what comes before a node along them.
--   noted_is, is_noted_is    the test tells which edges are noted
--   forward_there, forward_all   the table has exactly the forward edges
--   forward_falls            numbers fall along them
use Rattle.std.proofs.Common.{◌≡◌, ◌<◌, ℕ, Bool, true, false, ◌==◌, ◌&&◌, not, eq-eqb, List, [], ◌∷◌, inl, inr, map, filter, Contains, refl, ap, sym, ◌∙◌, subst}
use Rattle.std.proofs.lemmas.Bool.{eqb-true, false≢true}
use Rattle.lists.specs.MemberLaws.{no_member, first_member, further_member, first_or_further}
use Rattle.lists.specs.TestLaws.{by_test}
use Rattle.domain_core.specs.Reducible.{IsEdge, IsForwardEdge, IsFalling}
use Rattle.scope_graph.specs.Tables.{IsTable}
use Rattle.scope_graph.specs.Assembled.{flip}
use Rattle.scope_graph.specs.Descending.{IsBackList}
use Rattle.scope_graph.specs.Ranking.{Into, is_noted, is_forward}
use Rattle.scope_graph.proofs.Flipped.{flip_edge, edge_flip}

same_edge : (e f : ℕ × ℕ) → (e.0 == f.0) && (e.1 == f.1) ≡ true → e ≡ f
same_edge e f is = by_test (e.0 == f.0)
    (λ first. let second : (e.1 == f.1) ≡ true = rw first at is in let a = eqb-true e.0 f.0 first in let b = eqb-true e.1 f.1 second in ap (λ (n : ℕ). (n, e.1)) a ∙ ap (λ (n : ℕ). (f.0, n)) b)
    (λ other. absurd (let no : false ≡ true = rw other at is in false≢true no))

-- what the test tells of is noted
noted_is : (back : List (ℕ × ℕ)) (edge : ℕ × ℕ) → is_noted back edge ≡ true → Contains back edge
noted_is [] edge is = absurd (false≢true is)
noted_is (other ∷ back) edge is = by_test ((other.0 == edge.0) && (other.1 == edge.1))
    (λ here. subst (λ (e : ℕ × ℕ). Contains (other ∷ back) e) (same_edge other edge here) (first_member other back))
    (λ there. further_member other back edge (noted_is back edge (rw there at is)))

-- and of all that is
is_noted_is : (back : List (ℕ × ℕ)) (edge : ℕ × ℕ) → Contains back edge → is_noted back edge ≡ true
is_noted_is [] edge there = no_member edge there
is_noted_is (other ∷ back) edge there = first_or_further other back edge there
    (λ e. let a : (other.0 == edge.0) ≡ true = eq-eqb other.0 edge.0 (ap (λ (x : ℕ × ℕ). x.0) e) in let b : (other.1 == edge.1) ≡ true = eq-eqb other.1 edge.1 (ap (λ (x : ℕ × ℕ). x.1) e) in rw (a, b) refl)
    (λ more. let again = is_noted_is back edge more in by_test ((other.0 == edge.0) && (other.1 == edge.1)) (λ here. rw here refl) (λ further. rw (further, again) refl))

-- the edges that pass a test
passing : (passes : ℕ × ℕ → Bool) (edges : List (ℕ × ℕ)) (edge : ℕ × ℕ) → Contains (filter passes edges) edge
    → Contains edges edge × (passes edge ≡ true)
passing passes [] edge there = no_member edge there
passing passes (e ∷ edges) edge there = by_test (passes e)
    (λ is. first_or_further e (filter passes edges) edge (rw is at there)
    (λ same. subst (λ (x : ℕ × ℕ). Contains (e ∷ edges) x × (passes x ≡ true)) same (first_member e edges, is))
    (λ more. let r = passing passes edges edge more in (further_member e edges edge r.0, r.1)))
    (λ no_pass. let r = passing passes edges edge (rw no_pass at there) in (further_member e edges edge r.0, r.1))

passed : (passes : ℕ × ℕ → Bool) (edges : List (ℕ × ℕ)) (edge : ℕ × ℕ) → Contains edges edge → passes edge ≡ true
    → Contains (filter passes edges) edge
passed passes [] edge there is = no_member edge there
passed passes (e ∷ edges) edge there is = first_or_further e edges edge there
    (λ same. let now : passes e ≡ true = ap passes same ∙ is in rw now (subst (λ (x : ℕ × ℕ). Contains (e ∷ filter passes edges) x) same (first_member e (filter passes edges))))
    (λ more. let again = passed passes edges edge more is in by_test (passes e) (λ now. rw now (further_member e (filter passes edges) edge again)) (λ no_pass. rw no_pass again))

module _ (edges back : List (ℕ × ℕ)) (noted : IsBackList (IsEdge edges) back) where
  -- an edge of the list is a forward edge
  pub forward_is : (u v : ℕ) → IsEdge (filter (is_forward back) edges) u v → IsForwardEdge (IsEdge edges) u v
  forward_is u v there =
      let r = passing (is_forward back) edges (u, v) there in
      (r.0, λ over. let is = is_noted_is back (u, v) (noted.all u v (r.0, over)) in absurd (let no : false ≡ true = ap not (sym is) ∙ r.1 in false≢true no))

  is_forward_edge : (u v : ℕ) → IsForwardEdge (IsEdge edges) u v → IsEdge (filter (is_forward back) edges) u v
  is_forward_edge u v forward =
      passed (is_forward back) edges (u, v) forward.0
      (by_test (is_noted back (u, v)) (λ is. absurd (forward.1 (noted.backs u v (noted_is back (u, v) is)).1)) (λ other. ap not other))

  module _ (count : ℕ) (table : List (List ℕ)) (t : IsTable (map flip (filter (is_forward back) edges)) count table) where
    -- the table has forward edges alone
    pub forward_there : (u n : ℕ) → Into table u n → IsForwardEdge (IsEdge edges) u n
    forward_there u n there = forward_is u n (flip_edge (filter (is_forward back) edges) n u (t.there n u there))

    -- and all of them
    pub forward_all : (u n : ℕ) → IsForwardEdge (IsEdge edges) u n → Into table u n
    forward_all u n forward = t.all n u (edge_flip (filter (is_forward back) edges) u n (is_forward_edge u n forward))

    -- numbers fall along them
    pub forward_falls : (number : ℕ → ℕ) → IsFalling (IsEdge edges) number → (u n : ℕ) → Into table u n
        → number n < number u
    forward_falls number falls u n there =
        let forward = forward_there u n there in
        elim (falls u n forward.0) [ inl over ↦ absurd (forward.1 over) | inr lower ↦ lower ]
