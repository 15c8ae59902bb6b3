-- On the way to the laws of chart.
--   chart_along       a flow chart whose ways lie along the edges of an outline goes along it
use Rattle.std.proofs.Common.{◌≡◌, ℕ, Bool, true, false, List, [], Option, None, Some, length, slice_get, Contains, inl, inr, refl, subst, arith}
use Rattle.std.specs.Prelude.{nat_lt, not}
use Rattle.std.proofs.lemmas.List.Elements.{Contains-append_cases}
use Rattle.lists.specs.MemberLaws.{no_member, first_or_further}
use Rattle.lists.specs.TestLaws.{by_test}
use Rattle.domain_core.specs.Outlines.{Shape, IsOutline}
use Rattle.domain_core.specs.Machines.{IsAlong}
use Rattle.exec_toys.specs.declared.span.Span.{Span}
use Rattle.exec_toys.specs.declared.fork.Way.{Way}
use Rattle.exec_toys.specs.declared.fork.Way.TheVariants.{Goes, Fails}
use Rattle.exec_toys.specs.declared.fork.Fork.{Fork}
use Rattle.exec_toys.specs.Charts.{way_of, lowered, low_part, high_part, next_if, next_at, chart_machine, IsWayAlong, AreForksAlong}

-- It goes along an outline.

-- a successor by a way that lies along an edge
next_on : (edges : List (ℕ × ℕ)) (some : Bool) (n : ℕ) (way : Way) (t u : Span) (k : ℕ) → IsWayAlong edges n way
    → Contains (next_if some way t) (k, u) → Contains edges (n, k)
next_on edges false n way t u k along has = no_member (k, u) has
next_on edges true n (Fails fault) t u k along has = no_member (k, u) has
next_on edges true n (Goes to less) t u k along has =
    first_or_further (to, lowered t less) [] (k, u) has
    (λ same. subst (λ (p : ℕ × Span). Contains edges (n, p.0)) same along)
    (λ none. no_member (k, u) none)

-- the way that a number takes lies along an edge
way_on : (edges : List (ℕ × ℕ)) (n c k less : ℕ) (fork : Fork)
    → IsWayAlong edges n fork.below × IsWayAlong edges n fork.above → way_of fork c ≡ Goes k less
    → Contains edges (n, k)
way_on edges n c k less fork (below, above) is =
    by_test (nat_lt c fork.limit)
    (λ under. let way : fork.below ≡ Goes k less = rw under at is in subst (λ (w : Way). IsWayAlong edges n w) way below)
    (λ over. let way : fork.above ≡ Goes k less = rw over at is in subst (λ (w : Way). IsWayAlong edges n w) way above)

pub chart_along : (forks : List Fork) (span : Span) (o : Shape) → IsOutline o → length forks ≡ length o.own
    → AreForksAlong o.edges forks → IsAlong Span ℕ o (chart_machine forks span)
chart_along forks span o outlined many along = record {
  exit_is = many;
  next_along = λ n k t u fits has. next_edge n k t u (slice_get forks n) refl has;
  goes_along = λ n k c d (less, (fork, found, way), node, same).
      let edge = way_on o.edges n c k less fork (along n fork found) way in
      let (low, high) = outlined.edges_within n k edge in
      (edge, omega (arith, many, node, high));
  ends_along = λ n c (less, (fork, found, way)). subst (λ (k : ℕ). Contains o.edges (n, k)) many (way_on o.edges n c (length forks) less fork (along n fork found) way);
}
  where
    next_edge : (n k : ℕ) (t u : Span) (fork : Option Fork) → slice_get forks n ≡ fork
        → Contains (next_at fork t) (k, u) → Contains o.edges (n, k)
    next_edge n k t u None found has = no_member (k, u) has
    next_edge n k t u (Some fork) found has =
        let firsts : List (ℕ × Span) = next_if (nat_lt t.least fork.limit) fork.below (low_part t fork.limit) in
        let others : List (ℕ × Span) = next_if (not (nat_lt t.most fork.limit)) fork.above (high_part t fork.limit) in
        let (below, above) = along n fork found in
        elim (Contains-append_cases firsts others (k, u) has) [
          | inl left ↦ next_on o.edges (nat_lt t.least fork.limit) n fork.below (low_part t fork.limit) u k below left
          | inr right ↦ next_on o.edges (not (nat_lt t.most fork.limit)) n fork.above (high_part t fork.limit) u k above right
        ]
