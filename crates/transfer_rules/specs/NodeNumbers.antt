-- The numbers of nodes and goals of a graph.
--   is_same_node a b          the two nodes are one
--   number_of nodes node      the number of the node; the count of nodes where it is none of them
--   goal_number graph goal    the number of a goal: the end has the number of nodes as its number
use Rattle.std.specs.Prelude.{ℕ, suc, Bool, true, false, List, [], ◌∷◌, length, Option, None, Some, ◌==◌, ◌&&◌, if◌then◌else◌}
use Rattle.flow_graph.specs.Nodes.{Node, Goal}
use Rattle.flow_graph.specs.Numbering.{GraphParts}

abbrev pub is_same_path : List ℕ → List ℕ → Bool
is_same_path [] [] = true
is_same_path [] (b ∷ path) = false
is_same_path (a ∷ path) [] = false
is_same_path (a ∷ path) (b ∷ other) = (a == b) && is_same_path path other

abbrev pub is_same_block : Option ℕ → Option ℕ → Bool
is_same_block None None = true
is_same_block None (Some b) = false
is_same_block (Some a) None = false
is_same_block (Some a) (Some b) = a == b

-- the two nodes are one
abbrev pub is_same_node : Node → Node → Bool
is_same_node a b = is_same_path a.path b.path && is_same_block a.block b.block

-- the number of the node; the count of nodes where it is none of them
abbrev pub number_of : List Node → Node → ℕ
number_of [] node = 0
number_of (first ∷ nodes) node = if is_same_node first node then 0 else suc (number_of nodes node)

-- the number of a goal
abbrev pub goal_number : GraphParts → Goal → ℕ
goal_number graph None = length graph.nodes
goal_number graph (Some node) = number_of graph.nodes node
