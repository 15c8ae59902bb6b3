-- On the way to the laws of edge.
--   one_before     the first edges from nodes, with one edge before them
--   first_of       the first edge from a node
--   further_on     an edge that is not this one stands further on
--   same_goal      edges from one node lead to nodes that differ in their blocks
--   same_function  and that are of one function
--   first_function so is what the first edge from a node leads to
--   source_low   an edge leads from a node
use Rattle.std.proofs.Common.{◌≡◌, ◌≢◌, ◌<◌, ◌+◌, ℕ, zero, suc, Option, Some, None, List, [], ◌∷◌, length, slice_get, get_or, refl, ap, sym, ◌∙◌, subst, inl, inr, arith}
use Rattle.std.specs.Prelude.{slice_set}
use Rattle.std.specs.Option.{option_map}
use Rattle.std.proofs.lemmas.Bool.{cases_eq, cases_lt}
use Rattle.std.proofs.lemmas.Option.{same_Some, slice_get-map, slice_get_within, get_or_from_slice_get}
use Rattle.std.proofs.lemmas.List.Elements.{All-contains}
use Rattle.lists.specs.MemberLaws.{contained}
use Rattle.alf_check.specs.CheckedPrograms.{NumberedProgram, BlockEnding, Fall, Jump, Switch, Call, Return}
use Rattle.flow_graph.specs.Nodes.{Node, Goal, ending_at, function_at, BackLeads, ReturnLeads, EndLeads, PlaceLeads, Leads}
use Rattle.flow_graph.specs.Numbering.{IsNumberOf, IsStep, GraphParts, IsGraph}
use Rattle.flow_graph.specs.Edges.{IsEdgeUpTo, AreFirstEdges, HasEdge, HasEdgeFrom}
use Rattle.flow_graph.specs.EdgeLaws.{AreFirstFrom}

-- ---- where nodes lead

-- the goal is a node with the same path
record IsBeside (a : Node) (goal : Goal) : Type 0 where
  node : Node
  is : goal ≡ Some node
  path_is : node.path ≡ a.path

beside : (path : List ℕ) (x y : Option ℕ) (a : Node) (goal : Goal) → Some a ≡ Some (record { path = path; block = x })
    → goal ≡ Some (record { path = path; block = y }) → IsBeside a goal
beside path x y a goal h g =
    let is : a ≡ record { path = path; block = x } = same_Some a (record { path = path; block = x }) h in
    record { node = record { path = path; block = y }; is = g; path_is = sym (ap (λ (n : Node). n.path) is) }

back_beside : (path : List ℕ) (ending : Option BlockEnding) (a : Node) (goal : Goal) → BackLeads path ending (Some a)
    → BackLeads path ending goal → IsBeside a goal
back_beside path None a goal h g = absurd h
back_beside path (Some (Fall next)) a goal h g = absurd h
back_beside path (Some (Jump to)) a goal h g = absurd h
back_beside path (Some (Switch value targets others)) a goal h g = absurd h
back_beside path (Some (Call f args result next)) a goal h g = beside path (Some next) (Some next) a goal h g
back_beside path (Some (Return value)) a goal h g = absurd h

return_beside : (program : NumberedProgram) (path : List ℕ) (a : Node) (goal : Goal) → ReturnLeads program path (Some a)
    → ReturnLeads program path goal → IsBeside a goal
return_beside program [] a goal h g = absurd (cc)
return_beside program (b ∷ path) a goal h g = back_beside path (ending_at program (function_at program path) b) a goal h g

end_beside : (program : NumberedProgram) (path : List ℕ) (b : ℕ) (ending : Option BlockEnding) (a : Node) (goal : Goal)
    → EndLeads program path b ending (Some a) → EndLeads program path b ending goal → IsBeside a goal
end_beside program path b None a goal h g = absurd h
end_beside program path b (Some (Fall next)) a goal h g = beside path (Some next) (Some next) a goal h g
end_beside program path b (Some (Jump to)) a goal h g = beside path (Some to) (Some to) a goal h g
end_beside program path b (Some (Switch value targets others)) a goal h g = beside path (Some h.0) (Some g.0) a goal h.2 g.2
end_beside program path b (Some (Call f args result next)) a goal h g = beside (b ∷ path) None None a goal h g
end_beside program path b (Some (Return value)) a goal h g = return_beside program path a goal h g

-- where a node leads to a node, it leads to nodes of its path alone
goals_beside : (program : NumberedProgram) (node a : Node) (goal : Goal) → Leads program node (Some a)
    → Leads program node goal → IsBeside a goal
goals_beside program node a goal h g = by_block node.block h g where
  by_block : (block : Option ℕ) → PlaceLeads program node.path block (Some a) → PlaceLeads program node.path block goal
      → IsBeside a goal
  by_block None h g = beside node.path (Some 0) (Some 0) a goal h g
  by_block (Some b) h g = end_beside program node.path b (ending_at program (function_at program node.path) b) a goal h g

-- ---- the first edges from nodes

-- the first edge from a node, from which some edge leads
pub first_of : (graph : GraphParts) (firsts : List ℕ) → AreFirstEdges graph firsts → (u : ℕ) (goal : Node)
    → (h : HasEdge graph u goal) → IsEdgeUpTo graph.edges u h.number (get_or firsts u 0)
first_of graph firsts are u goal h =
    let found = are.each h.number u h.to h.edge in
    subst (IsEdgeUpTo graph.edges u h.number) (sym (get_or_from_slice_get firsts u found.0 0 found.1)) found.2

-- ---- members of lists

pub get_set_same : {A : Type 0} (xs : List A) (i : ℕ) (x : A) → i < length xs → slice_get (slice_set xs i x) i ≡ Some x
get_set_same [] i x low = absurd (omega arith)
get_set_same (y ∷ ys) zero x low = refl
get_set_same (y ∷ ys) (suc i) x low = get_set_same ys i x (omega arith)

pub get_set_other : {A : Type 0} (xs : List A) (i j : ℕ) (x : A) → j ≢ i
    → slice_get (slice_set xs i x) j ≡ slice_get xs j
get_set_other [] i j x differ = refl
get_set_other (y ∷ ys) zero zero x differ = absurd (differ refl)
get_set_other (y ∷ ys) zero (suc j) x differ = refl
get_set_other (y ∷ ys) (suc i) zero x differ = refl
get_set_other (y ∷ ys) (suc i) (suc j) x differ = get_set_other ys i j x (λ e. differ (ap (λ (n : ℕ). suc n) e))

-- ---- the first edges from nodes, as they are found from the last edge on

-- with the edge before them
pub one_before : (graph : GraphParts) (firsts : List ℕ) (edge from to : ℕ) → from < length firsts
    → slice_get graph.edges edge ≡ Some (from, to)
    → AreFirstFrom graph firsts (edge + 1) → AreFirstFrom graph (slice_set firsts from edge) edge
one_before graph firsts edge from to low here each e u v further at = elim (cases_eq u from) [
  | inl same ↦ (
    edge,
    subst (λ (n : ℕ). slice_get (slice_set firsts from edge) n ≡ Some edge) (sym same) (get_set_same firsts from edge low),
    record { to = to; at = subst (λ (n : ℕ). slice_get graph.edges edge ≡ Some (n, to)) (sym same) here; low = further },
  )
  | inr other ↦
      let differ : e ≢ edge = λ e_is. other (ap (λ (pair : ℕ × ℕ). pair.0) (same_Some (u, v) (from, to) (sym at ∙ ap (slice_get graph.edges) e_is ∙ here))) in
      let found = each e u v (omega arith) at in
      (found.0, get_set_other firsts from u edge other ∙ found.1, found.2)
]

-- an edge that is not this one stands further on
pub further_on : (graph : GraphParts) (u : ℕ) (goal : Node) (number : ℕ) → (f : HasEdgeFrom graph u goal number)
    → (slice_get graph.edges number ≡ Some (u, f.edge.to) → ⊥) → HasEdgeFrom graph u goal (number + 1)
further_on graph u goal number f other = elim (cases_lt number f.edge.number) [
  | inl further ↦ record { edge = f.edge; further = omega arith }
  | inr same ↦ let further = f.further in let e : number ≡ f.edge.number = omega arith in
      absurd (other (subst (λ (n : ℕ). slice_get graph.edges n ≡ Some (u, f.edge.to)) (sym e) f.edge.edge))
]

-- ---- edges of a graph

module _ (program : NumberedProgram) (graph : GraphParts) (is : IsGraph program graph) where
  -- what an edge is
  edge_leads : (e u v : ℕ) → slice_get graph.edges e ≡ Some (u, v) → IsStep program graph.nodes u v
  edge_leads e u v at = All-contains (λ (edge : ℕ × ℕ). IsStep program graph.nodes edge.0 edge.1) graph.edges (u, v) is.listed.steps (contained graph.edges e (u, v) at)

  -- an edge leads from a node
  pub source_low : (e u v : ℕ) → slice_get graph.edges e ≡ Some (u, v) → u < length graph.nodes
  source_low e u v at = let step = edge_leads e u v at in slice_get_within graph.nodes u step.node step.from

  -- the goal of an edge that leads to a node
  to_node : (goal : Goal) (v : ℕ) (node : Node) → IsNumberOf graph.nodes goal v → slice_get graph.nodes v ≡ Some node
      → goal ≡ Some node
  to_node None v node h at = let low = slice_get_within graph.nodes v node at in absurd (omega arith)
  to_node (Some other) v node h at = sym h ∙ at

  node_leads : (u : ℕ) (goal : Node) (h : HasEdge graph u goal) → (step : IsStep program graph.nodes u h.to)
      → Leads program step.node (Some goal)
  node_leads u goal h step = subst (Leads program step.node) (to_node step.goal h.to goal step.to h.is) step.leads

  -- an edge from where one leads to a node
  beside_edge : (e u v : ℕ) (goal : Node) → HasEdge graph u goal → slice_get graph.edges e ≡ Some (u, v)
      → (next : Node) × (slice_get graph.nodes v ≡ Some next) × (next.path ≡ goal.path)
  beside_edge e u v goal h at =
      let step = edge_leads h.number u h.to h.edge in
      let other = edge_leads e u v at in
      let same : other.node ≡ step.node = same_Some other.node step.node (sym other.from ∙ step.from) in
      let leads : Leads program step.node other.goal = subst (λ (n : Node). Leads program n other.goal) same other.leads in
      let found = goals_beside program step.node goal other.goal (node_leads u goal h step) leads in
      (found.node, subst (λ (g : Goal). IsNumberOf graph.nodes g v) found.is other.to, found.path_is)

  -- edges from one node lead to nodes that differ in their blocks
  pub same_goal : (e u v : ℕ) (goal next : Node) → HasEdge graph u goal → slice_get graph.edges e ≡ Some (u, v)
      → slice_get graph.nodes v ≡ Some next → next.block ≡ goal.block → next ≡ goal
  same_goal e u v goal next h at there block =
      let found = beside_edge e u v goal h at in
      let same : found.0 ≡ next = same_Some found.0 next (sym found.1 ∙ there) in
      let path : next.path ≡ goal.path = sym (ap (λ (n : Node). n.path) same) ∙ found.2 in
      made next goal path block where
        made : (m n : Node) → m.path ≡ n.path → m.block ≡ n.block → m ≡ n
        made m n e f = ap (λ (path : List ℕ). let node : Node = record { path = path; block = m.block } in node) e ∙ ap (λ (block : Option ℕ). let node : Node = record { path = n.path; block = block } in node) f

  -- and that are of one function
  pub same_function : (e u v : ℕ) (goal : Node) → HasEdge graph u goal → slice_get graph.edges e ≡ Some (u, v)
      → slice_get graph.funcs v ≡ Some (function_at program goal.path)
  same_function e u v goal h at =
      let found = beside_edge e u v goal h at in
      let of : Node → ℕ = λ (n : Node). function_at program n.path in
      ap (λ (fs : List ℕ). slice_get fs v) is.funcs ∙ slice_get-map of graph.nodes v ∙ ap (option_map of) found.1 ∙ ap (λ (path : List ℕ). Some (function_at program path)) found.2

  -- so is what the first edge leads to
  pub first_function : (firsts : List ℕ) → AreFirstEdges graph firsts → (u : ℕ) (goal : Node) → HasEdge graph u goal
      → (edge : ℕ × ℕ) → slice_get graph.edges (get_or firsts u 0) ≡ Some edge
      → slice_get graph.funcs edge.1 ≡ Some (function_at program goal.path)
  first_function firsts are u goal h edge at =
      let first = first_of graph firsts are u goal h in
      let e : edge.1 ≡ first.to = ap (λ (pair : ℕ × ℕ). pair.1) (same_Some edge (u, first.to) (sym at ∙ first.at)) in
      subst (λ (v : ℕ). slice_get graph.funcs v ≡ Some (function_at program goal.path)) (sym e) (same_function (get_or firsts u 0) u first.to goal h first.at)
