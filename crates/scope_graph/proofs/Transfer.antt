-- From the table to the edges.
use Rattle.std.proofs.Common.{◌<◌, ℕ, List, arith}
use Rattle.domain_core.specs.Reducible.{IsEdge, IsFalling}
use Rattle.graph_walks.specs.Walks.{Walk}
use Rattle.graph_walks.specs.WalkLaws.{walk_same}
use Rattle.domain_core.specs.ReducibleLaws.{dominates_same, falling_same}
use Rattle.graph_walks.specs.Tables.{HasEdge, IsClosed}
use Rattle.scope_graph.specs.Tables.{IsTable}
use Rattle.scope_graph.specs.Descending.{IsBackList}
use Rattle.scope_graph.specs.Ranking.{IsWithin}

module _ (edges : List (ℕ × ℕ)) (count : ℕ) (table : List (List ℕ)) (t : IsTable edges count table) where
  -- the table has a row for each node to which one leads
  pub table_closed : IsWithin edges count → IsClosed table
  table_closed within u v edge = let long = t.long in let low = (within u v (t.there u v edge)).1 in omega arith

  -- and each node that leads on is reached
  pub table_reached : IsWithin edges count → ((n : ℕ) → n < count → (path : List ℕ) × Walk (IsEdge edges) 0 n path)
      → (u v : ℕ) → HasEdge table u v → (path : List ℕ) × Walk (HasEdge table) 0 u path
  table_reached within reached u v edge = let way = reached u (within u v (t.there u v edge)).0 in (way.0, walk_same (IsEdge edges) (HasEdge table) t.all 0 u way.0 way.1)

  -- the back edges are the same
  pub back_same : (back : List (ℕ × ℕ)) → IsBackList (HasEdge table) back → IsBackList (IsEdge edges) back
  back_same back b = record {
    backs = λ u h there. let e = b.backs u h there in (t.there u h e.0, dominates_same (IsEdge edges) (HasEdge table) t.all h u e.1);
    all = λ u h e. b.all u h (t.all u h e.0, dominates_same (HasEdge table) (IsEdge edges) t.there h u e.1);
  }

  -- numbers fall along the edges too
  pub edges_fall : (number : ℕ → ℕ) → IsFalling (HasEdge table) number → IsFalling (IsEdge edges) number
  edges_fall number falls = falling_same (HasEdge table) (IsEdge edges) t.there t.all number falls
