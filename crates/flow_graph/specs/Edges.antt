-- Where edges lead, by the numbers of nodes.
--   IsEdgeUpTo edges u e first   edge number first leads from node u, and is at most e
--   AreFirstEdges graph firsts   for each node from which edges lead, the number of the first of them
--   HasEdge graph u goal         an edge leads from node u to this node
--   HasEdgeFrom graph u goal least   so does an edge from this number on
--   IsNodeWith graph number block   the number is that of a node with this block, or of an entry
use Rattle.std.specs.Prelude.{◌≡◌, ◌≤◌, ℕ, List, length, Option, Some, slice_get}
use Rattle.flow_graph.specs.Nodes.{Node}
use Rattle.flow_graph.specs.Numbering.{GraphParts}

-- edge number first leads from node u, and is at most e
pub record IsEdgeUpTo (edges : List (ℕ × ℕ)) (u e first : ℕ) : Type 0 where
  pub to : ℕ
  pub at : slice_get edges first ≡ Some (u, to)
  pub low : first ≤ e

-- for each node from which edges lead, the number of the first of them
pub record AreFirstEdges (graph : GraphParts) (firsts : List ℕ) : Type 0 where
  pub long : length firsts ≡ length graph.nodes
  pub each : (e u v : ℕ) → slice_get graph.edges e ≡ Some (u, v)
      → (first : ℕ) × (slice_get firsts u ≡ Some first) × IsEdgeUpTo graph.edges u e first

-- an edge leads from node u to this node
pub record HasEdge (graph : GraphParts) (u : ℕ) (goal : Node) : Type 0 where
  pub number : ℕ
  pub to : ℕ
  pub edge : slice_get graph.edges number ≡ Some (u, to)
  pub is : slice_get graph.nodes to ≡ Some goal

-- the number is that of a node with this block, or of an entry
pub record IsNodeWith (graph : GraphParts) (number : ℕ) (block : Option ℕ) : Type 0 where
  pub node : Node
  pub at : slice_get graph.nodes number ≡ Some node
  pub block_is : node.block ≡ block

-- an edge from this number on leads from node u to this node
pub record HasEdgeFrom (graph : GraphParts) (u : ℕ) (goal : Node) (least : ℕ) : Type 0 where
  pub edge : HasEdge graph u goal
  pub further : least ≤ edge.number
