-- What the graph of a program keeps, said of numbers.
--   node_number graph n        the node of this number
--   HasEdge graph u v          an edge leads from u to v; the end has the number of nodes as its number
--   IsLink from to             an edge within an instance, to the entry of one that is called, or back from it
--   IsLastReturn program node  a return of the function that the program starts with
--   HasPlace program node      its path is one of calls, its block is there, and the functions on the path differ
--   IsExpansion program graph  what the graph of a program keeps
use Rattle.std.specs.Prelude.{◌≡◌, ◌≢◌, ◌<◌, ◌≤◌, ℕ, [], ◌∷◌, length, Option, None, Some, Contains, AllPairs, slice_get, slice_index_or}
use Rattle.graph_walks.specs.Walks.{Reaches, IsDistinct}
use Rattle.alf_program.specs.Tree.{NumberedExpression}
use Rattle.alf_check.specs.CheckedPrograms.{NumberedProgram, Return}
use Rattle.flow_graph.specs.Nodes.{Node, Leads, ending_at, function_at, first_node}
use Rattle.flow_graph.specs.Numbering.{GraphParts}
use Rattle.flow_graph.specs.Paths.{IsPlaced, functions_on}

-- the node of this number
abbrev pub node_number : GraphParts → ℕ → Node
node_number graph n = slice_index_or graph.nodes n first_node

-- an edge leads from u to v
abbrev pub HasEdge : GraphParts → ℕ → ℕ → Type 0
HasEdge graph u v = Contains graph.edges (u, v)

-- an edge within an instance, to the entry of one that is called, or back from it
pub data IsLink (from to : Node) : Type 0 where
  inside : from.path ≡ to.path → to.block ≢ None → IsLink from to
  calls : (b : ℕ) → from.block ≡ Some b → to.path ≡ b ∷ from.path → to.block ≡ None → IsLink from to
  goes_back : (b : ℕ) → from.path ≡ b ∷ to.path → to.block ≢ None → IsLink from to

-- a return of the function that the program starts with
pub record IsLastReturn (program : NumberedProgram) (node : Node) : Type 0 where
  pub block : ℕ
  pub value : Option NumberedExpression
  pub of_root : node.path ≡ []
  pub of_block : node.block ≡ Some block
  pub returns_it : ending_at program program.root block ≡ Some (Return value)

-- its path is one of calls, its block is there, and the functions on the path differ
pub record HasPlace (program : NumberedProgram) (node : Node) : Type 0 where
  pub placed : IsPlaced program node
  pub functions_differ : IsDistinct (functions_on program node.path)
  pub short : length node.path < length program.funcs

-- what the graph of a program keeps
pub record IsExpansion (program : NumberedProgram) (graph : GraphParts) : Type 0 where
  pub some : 0 < length graph.nodes
  pub first : node_number graph 0 ≡ first_node
  pub within : (u v : ℕ) → HasEdge graph u v → (u < length graph.nodes) × (v ≤ length graph.nodes)
  pub reached : (n : ℕ) → n < length graph.nodes → Reaches (HasEdge graph) 0 n
  pub apart : (m n : ℕ) → m < length graph.nodes → n < length graph.nodes → node_number graph m ≡ node_number graph n
      → m ≡ n
  pub links : (u v : ℕ) → HasEdge graph u v → v < length graph.nodes
      → IsLink (node_number graph u) (node_number graph v)
  pub leads : (u v : ℕ) → HasEdge graph u v → v < length graph.nodes
      → Leads program (node_number graph u) (Some (node_number graph v))
  pub ends : (u : ℕ) → HasEdge graph u (length graph.nodes) → IsLastReturn program (node_number graph u)
  pub all : (u : ℕ) (next : Node) → u < length graph.nodes → Leads program (node_number graph u) (Some next)
      → (v : ℕ) × (v < length graph.nodes) × (node_number graph v ≡ next) × HasEdge graph u v
  pub all_ends : (u : ℕ) → u < length graph.nodes → Leads program (node_number graph u) None
      → HasEdge graph u (length graph.nodes)
  pub edges_differ : AllPairs (λ (e f : ℕ × ℕ). e ≢ f) graph.edges
  pub places : (n : ℕ) → n < length graph.nodes → HasPlace program (node_number graph n)
  pub funcs : (n : ℕ) → n < length graph.nodes
      → slice_get graph.funcs n ≡ Some (function_at program (node_number graph n).path)
