-- The graph of a program: its nodes and edges by their numbers.
--   IsBefore m n                  node m has the lower number: call paths are compared from the root, then the entry comes before the blocks
--   IsNumbering program nodes     the nodes that are kept, each once, in their order
--   IsNumberOf nodes goal v       v is the number of the goal; the end has the number of nodes as its number
--   IsStep program nodes u v      an edge leads from node u to v
--   IsEdgeBefore e f              edge e has the lower number
--   IsEdges program nodes edges   the edges, each once, in their order
--   HasMoreNodes program n        more than n nodes are kept
--   HasMoreEdges program n        the nodes have a numbering within the limit, and more than n edges
--   GraphParts                    what a graph is seen as
--   IsGraph program graph         it is that of the program, within the limits
use Rattle.std.specs.Prelude.{◌≡◌, ◌≢◌, ◌<◌, ◌≤◌, ℕ, suc, List, map, reverse, length, ◌⊎◌, Option, None, Some, Contains, All, AllPairs, slice_get}
use Rattle.std.specs.declared.cmp.Ordering.{Ordering}
use Rattle.std.specs.declared.cmp.Ordering.TheVariants.{Less}
use Rattle.std.specs.Ordering.{nat_cmp, ordering_then}
use Rattle.std.specs.Cmp.Lexicographic.{slice_cmp}
use Rattle.alf_check.specs.CheckedPrograms.{NumberedProgram}
use Rattle.flow_graph.specs.Nodes.{Node, Goal, Leads, IsKeptNode, function_at}
use Rattle.flow_graph.specs.Names.{node_name}

-- the entry comes before the blocks
abbrev pub block_rank : Option ℕ → ℕ
block_rank None = 0
block_rank (Some b) = suc b

-- call paths are compared from the root, and a path comes before what goes on from it
abbrev pub node_cmp : Node → Node → Ordering
node_cmp m n = ordering_then (slice_cmp nat_cmp (reverse m.path) (reverse n.path)) (nat_cmp (block_rank m.block) (block_rank n.block))

abbrev pub IsBefore : Node → Node → Type 0
IsBefore m n = node_cmp m n ≡ Less

-- the nodes that are kept, each once, in their order
pub record IsNumbering (program : NumberedProgram) (nodes : List Node) : Type 0 where
  pub ascends : AllPairs IsBefore nodes
  pub kept : All (IsKeptNode program) nodes
  pub all : (node : Node) → IsKeptNode program node → Contains nodes node

-- the number of a goal
abbrev pub IsNumberOf : List Node → Goal → ℕ → Type 0
IsNumberOf nodes None v = v ≡ length nodes
IsNumberOf nodes (Some node) v = slice_get nodes v ≡ Some node

-- an edge leads from node u to v
pub record IsStep (program : NumberedProgram) (nodes : List Node) (u v : ℕ) : Type 0 where
  pub node : Node
  pub goal : Goal
  pub from : slice_get nodes u ≡ Some node
  pub leads : Leads program node goal
  pub to : IsNumberOf nodes goal v

-- edges are compared by where they come from, then by where they lead
abbrev pub IsEdgeBefore : ℕ × ℕ → ℕ × ℕ → Type 0
IsEdgeBefore e f = (e.0 < f.0) ⊎ ((e.0 ≡ f.0) × (e.1 < f.1))

-- the edges, each once, in their order
pub record IsEdges (program : NumberedProgram) (nodes : List Node) (edges : List (ℕ × ℕ)) : Type 0 where
  pub ascends : AllPairs IsEdgeBefore edges
  pub steps : All (λ (edge : ℕ × ℕ). IsStep program nodes edge.0 edge.1) edges
  pub all : (u v : ℕ) → IsStep program nodes u v → Contains edges (u, v)

-- more than n nodes are kept
pub record HasMoreNodes (program : NumberedProgram) (n : ℕ) : Type 0 where
  pub nodes : List Node
  pub apart : AllPairs (λ (a b : Node). a ≢ b) nodes
  pub kept : All (IsKeptNode program) nodes
  pub more : n < length nodes

abbrev pub most_nodes : ℕ
most_nodes = 512

abbrev pub most_edges : ℕ
most_edges = 1024

-- no more than 512 nodes are kept, and more than n edges lead from them
pub record HasMoreEdges (program : NumberedProgram) (n : ℕ) : Type 0 where
  pub nodes : List Node
  pub edges : List (ℕ × ℕ)
  pub numbered : IsNumbering program nodes
  pub few : length nodes ≤ most_nodes
  pub listed : IsEdges program nodes edges
  pub more : n < length edges

-- what a graph is seen as: its nodes with the function of each and their names, and its edges
pub record GraphParts : Type 0 where
  pub nodes : List Node
  pub funcs : List ℕ
  pub names : List (List ℕ)
  pub edges : List (ℕ × ℕ)

-- the graph of a program, within the limits
pub record IsGraph (program : NumberedProgram) (graph : GraphParts) : Type 0 where
  pub numbered : IsNumbering program graph.nodes
  pub listed : IsEdges program graph.nodes graph.edges
  pub funcs : graph.funcs ≡ map (λ (node : Node). function_at program node.path) graph.nodes
  pub names : graph.names ≡ map (node_name program) graph.nodes
  pub few_nodes : length graph.nodes ≤ most_nodes
  pub few_edges : length graph.edges ≤ most_edges
