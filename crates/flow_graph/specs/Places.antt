-- Nodes as the code keeps them: with call paths from the root on.
--   node_at path block      the node with this path from the root on
--   node_of place           what a place stands for
--   nodes_of places         what places stand for
--   IsGap nodes node at     the nodes before this place come before the node, and those from it on after it
use Rattle.std.specs.Prelude.{◌<◌, ◌≤◌, ℕ, List, map, reverse, length, Option, slice_index_or}
use Rattle.flow_graph.specs.Nodes.{Node}
use Rattle.flow_graph.specs.Numbering.{IsBefore}
use Rattle.flow_graph.specs.declared.place.Place.{Place}

-- the node with this path from the root on
abbrev pub node_at : List ℕ → Option ℕ → Node
node_at path block = record { path = reverse path; block = block }

-- what a place stands for
abbrev pub node_of : Place → Node
node_of place = node_at place.path.items place.block

abbrev pub nodes_of : List Place → List Node
nodes_of places = map node_of places

-- the nodes before this place come before the node, and those from it on after it
pub record IsGap (nodes : List Node) (node : Node) (at : ℕ) : Type 0 where
  pub within : at ≤ length nodes
  pub before : (k : ℕ) → k < at → IsBefore (slice_index_or nodes k node) node
  pub after : (k : ℕ) → at ≤ k → k < length nodes → IsBefore node (slice_index_or nodes k node)
