-- Tables of the edges of a graph. The end of runs has a row too, which is empty.
--   IsTable edges nodes table    the table has the edges, and a row for each node and for the end
--   targets edges u              the nodes to which edges lead from u, in order
--   IsAround table to without path   the path is a walk from node 0 to a node, without another
use Rattle.std.specs.Prelude.{◌≡◌, ◌==◌, ℕ, suc, List, map, filter, length, Contains}
use Rattle.graph_walks.specs.Walks.{Walk}
use Rattle.graph_walks.specs.Tables.{HasEdge}
use Rattle.domain_core.specs.Reducible.{IsEdge}

-- the table has the edges, and a row for each node and for the end
pub record IsTable (edges : List (ℕ × ℕ)) (nodes : ℕ) (table : List (List ℕ)) : Type 0 where
  pub long : length table ≡ suc nodes
  pub there : (u v : ℕ) → HasEdge table u v → IsEdge edges u v
  pub all : (u v : ℕ) → IsEdge edges u v → HasEdge table u v

-- the nodes to which edges lead from u, in order
abbrev pub targets : List (ℕ × ℕ) → ℕ → List ℕ
targets edges u = map (λ edge. edge.1) (filter (λ edge. edge.0 == u) edges)

-- the path is a walk from node 0 to a node, without another
pub record IsAround (table : List (List ℕ)) (to without : ℕ) (path : List ℕ) : Type 0 where
  pub walk : Walk (HasEdge table) 0 to path
  pub avoids : Contains path without → ⊥
