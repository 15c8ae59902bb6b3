-- A program has one graph, or too many nodes, or too many edges.
--   one_numbering, one_edges, one_graph   its nodes have one numbering, its edges one list, and it has one graph
--   not_more_nodes, not_more_edges, not_both   no two of the three hold of one program
use Rattle.std.proofs.Common.{◌≡◌, ◌≤◌, ℕ, List, map, length, inl, inr, ap, sym, ◌∙◌, subst, arith}
use Rattle.std.proofs.lemmas.List.Elements.{All-contains}
use Rattle.alf_check.specs.CheckedPrograms.{NumberedProgram}
use Rattle.flow_graph.specs.Nodes.{Node, IsKeptNode, function_at}
use Rattle.flow_graph.specs.Names.{node_name}
use Rattle.flow_graph.specs.Numbering.{GraphParts, HasMoreNodes, HasMoreEdges, IsBefore, IsEdgeBefore, IsEdges, IsGraph, IsNumbering, IsStep, most_nodes, most_edges}
use Rattle.flow_graph.proofs.Order.{before_before, not_before_itself}
use Rattle.flow_graph.proofs.OneList.{one_list, no_longer}

abbrev Edge : Type 0
Edge = ℕ × ℕ

-- no edge is before itself
pub edge_itself : (e : ℕ × ℕ) → IsEdgeBefore e e → ⊥
edge_itself e (inl less) = omega arith
edge_itself e (inr same) = let less = same.1 in omega arith

-- an edge before one that is before another is before that one
edge_further : (e f g : ℕ × ℕ) → IsEdgeBefore e f → IsEdgeBefore f g → IsEdgeBefore e g
edge_further e f g (inl a) (inl b) = inl (omega arith)
edge_further e f g (inl a) (inr b) = let same = b.0 in inl (omega arith)
edge_further e f g (inr a) (inl b) = let same = a.0 in inl (omega arith)
edge_further e f g (inr a) (inr b) = let first = a.0 in let second = b.0 in let low = a.1 in let high = b.1 in inr (omega arith, omega arith)

module _ (program : NumberedProgram) where
  -- its nodes have one numbering
  pub one_numbering : (nodes others : List Node) → IsNumbering program nodes → IsNumbering program others
      → nodes ≡ others
  one_numbering nodes others one other = one_list IsBefore not_before_itself before_before nodes others one.ascends other.ascends
      (λ node h. other.all node (All-contains (IsKeptNode program) nodes node one.kept h))
      (λ node h. one.all node (All-contains (IsKeptNode program) others node other.kept h))

  -- its edges one list
  pub one_edges : (nodes : List Node) (edges others : List (ℕ × ℕ)) → IsEdges program nodes edges
      → IsEdges program nodes others → edges ≡ others
  one_edges nodes edges others one other =
      let Step : Edge → Type 0 = λ edge. IsStep program nodes edge.0 edge.1 in
      one_list IsEdgeBefore edge_itself edge_further edges others one.ascends other.ascends
      (λ edge h. other.all edge.0 edge.1 (All-contains Step edges edge one.steps h))
      (λ edge h. one.all edge.0 edge.1 (All-contains Step others edge other.steps h))

  abbrev made : List Node → List ℕ → List (List ℕ) → List (ℕ × ℕ) → GraphParts
  made nodes funcs names edges = record { nodes = nodes; funcs = funcs; names = names; edges = edges }

  -- it has one graph
  pub one_graph : (graph other : GraphParts) → IsGraph program graph → IsGraph program other → graph ≡ other
  one_graph graph other one two =
      let nodes : graph.nodes ≡ other.nodes = one_numbering graph.nodes other.nodes one.numbered two.numbered in
      let edges : graph.edges ≡ other.edges = one_edges graph.nodes graph.edges other.edges one.listed (subst (λ (ns : List Node). IsEdges program ns other.edges) (sym nodes) two.listed) in
      let funcs : graph.funcs ≡ other.funcs = one.funcs ∙ ap (λ (ns : List Node). map (λ (node : Node). function_at program node.path) ns) nodes ∙ sym two.funcs in
      let names : graph.names ≡ other.names = one.names ∙ ap (λ (ns : List Node). map (node_name program) ns) nodes ∙ sym two.names in
      ap (λ (ns : List Node). made ns graph.funcs graph.names graph.edges) nodes ∙ ap (λ (fs : List ℕ). made other.nodes fs graph.names graph.edges) funcs
      ∙ ap (λ (xs : List (List ℕ)). made other.nodes other.funcs xs graph.edges) names ∙ ap (λ (es : List Edge). made other.nodes other.funcs other.names es) edges

  -- more than as many nodes are kept as a numbering has
  too_many : (nodes : List Node) → IsNumbering program nodes → length nodes ≤ most_nodes
      → HasMoreNodes program most_nodes → ⊥
  too_many nodes numbered few many =
      let no_more = no_longer many.nodes nodes many.apart (λ node h. numbered.all node (All-contains (IsKeptNode program) many.nodes node many.kept h)) in
      let more = many.more in
      omega arith

  pub not_more_nodes : (graph : GraphParts) → IsGraph program graph → HasMoreNodes program most_nodes → ⊥
  not_more_nodes graph is many = too_many graph.nodes is.numbered is.few_nodes many

  pub not_more_edges : (graph : GraphParts) → IsGraph program graph → HasMoreEdges program most_edges → ⊥
  not_more_edges graph is many =
      let nodes : many.nodes ≡ graph.nodes = one_numbering many.nodes graph.nodes many.numbered is.numbered in
      let edges : many.edges ≡ graph.edges = one_edges graph.nodes many.edges graph.edges (subst (λ (ns : List Node). IsEdges program ns many.edges) nodes many.listed) is.listed in
      let long : length many.edges ≡ length graph.edges = ap (λ (es : List Edge). length es) edges in
      let more = many.more in
      let few = is.few_edges in
      omega arith

  pub not_both : HasMoreNodes program most_nodes → HasMoreEdges program most_edges → ⊥
  not_both many edges = too_many edges.nodes edges.numbered edges.few many
