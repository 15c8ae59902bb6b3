-- The rows of a table.
use Rattle.std.proofs.Common.{◌≡◌, ◌<◌, ◌≤◌, ℕ, suc, true, false, ◌==◌, eq-eqb, List, [], ◌∷◌, inl, inr, Vec, Global, get_or, length, Contains, ap, sym, ◌∙◌, subst, arith}
use Rattle.std.proofs.lemmas.Bool.{eqb-true, cases_lt}
use Rattle.std.proofs.lemmas.List.{length-map, get_or_past}
use Rattle.domain_core.specs.Reducible.{IsEdge}
use Rattle.graph_walks.specs.ListLaws.{contains_cases}
use Rattle.lists.specs.MemberLaws.{first_member, further_member, no_member}
use Rattle.graph_walks.specs.Tables.{HasEdge, rows_of}
use Rattle.scope_graph.specs.Tables.{IsTable, targets}
use Rattle.lists.specs.TestLaws.{by_test}

-- a target is that of an edge
target_edge : (edges : List (ℕ × ℕ)) (u v : ℕ) → Contains (targets edges u) v → IsEdge edges u v
target_edge [] u v h = absurd (no_member v h)
target_edge (edge ∷ edges) u v h = by_test (edge.0 == u) (λ e. here (λ more. target_edge edges u v more) e) (λ e. other (λ more. target_edge edges u v more) e)
  where
    here : (Contains (targets edges u) v → IsEdge edges u v) → (edge.0 == u) ≡ true → IsEdge (edge ∷ edges) u v
    here again e =
        let there : Contains (edge.1 ∷ targets edges u) v = (let k = h in rw e at k) in
        elim (contains_cases edge.1 (targets edges u) v there) [
          | inl is ↦ let first = eqb-true edge.0 u e in (0, omega arith, ap (λ (n : ℕ). (n, edge.1)) first ∙ ap (λ (n : ℕ). (u, n)) (sym is))
          | inr more ↦ further_member edge edges (u, v) (again more)
        ]

    other : (Contains (targets edges u) v → IsEdge edges u v) → (edge.0 == u) ≡ false → IsEdge (edge ∷ edges) u v
    other again e = let there : Contains (targets edges u) v = (let k = h in rw e at k) in further_member edge edges (u, v) (again there)

-- and the edges have all targets
edge_target : (edges : List (ℕ × ℕ)) (u v : ℕ) → IsEdge edges u v → Contains (targets edges u) v
edge_target [] u v h = absurd (no_member (u, v) h)
edge_target (edge ∷ edges) u v h = by_test (edge.0 == u) (λ e. here (λ more. edge_target edges u v more) e) (λ e. other (λ more. edge_target edges u v more) e)
  where
    here : (IsEdge edges u v → Contains (targets edges u) v) → (edge.0 == u) ≡ true
        → Contains (targets (edge ∷ edges) u) v
    here again e = rw e (elim (contains_cases edge edges (u, v) h) [
      | inl is ↦ let second : v ≡ edge.1 = cc in subst (λ (n : ℕ). Contains (edge.1 ∷ targets edges u) n) (sym second) (first_member edge.1 (targets edges u))
      | inr more ↦ further_member edge.1 (targets edges u) v (again more)
    ])

    other : (IsEdge edges u v → Contains (targets edges u) v) → (edge.0 == u) ≡ false
        → Contains (targets (edge ∷ edges) u) v
    other again e = rw e (elim (contains_cases edge edges (u, v) h) [
      | inl is ↦ let first : edge.0 ≡ u = cc in absurd (let k : true ≡ false = sym (eq-eqb edge.0 u first) ∙ e in cc)
      | inr more ↦ again more
    ])

-- rows of targets are the table of the edges
pub table_rows : (edges : List (ℕ × ℕ)) (nodes : ℕ) (rows : List (Vec ℕ Global))
    → ((u v : ℕ) → IsEdge edges u v → u ≤ nodes) → length rows ≡ suc nodes
    → ((u : ℕ) → u < length rows → get_or (rows_of rows) u [] ≡ targets edges u) → IsTable edges nodes (rows_of rows)
table_rows edges nodes rows within long each = record { long = length-map rows _ ∙ long; there = there; all = all }
  where
    there : (u v : ℕ) → HasEdge (rows_of rows) u v → IsEdge edges u v
    there u v h = elim (cases_lt u (length rows)) [
      | inl low ↦ target_edge edges u v (subst (λ (row : List ℕ). Contains row v) (each u low) h)
      | inr past ↦ let more = length-map rows (λ (row : Vec ℕ Global). row.items) in let none = subst (λ (row : List ℕ). Contains row v) (get_or_past (rows_of rows) u [] (omega arith)) h in absurd (no_member v none)
    ]

    all : (u v : ℕ) → IsEdge edges u v → HasEdge (rows_of rows) u v
    all u v edge = let low = within u v edge in subst (λ (row : List ℕ). Contains row v) (sym (each u (omega arith))) (edge_target edges u v edge)
