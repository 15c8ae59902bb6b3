-- The node where a step is made.
--   node_here      there is a node of this number
--   place_is       what the graph tells of the node
--   func_is        its function
--   next_is        the number of a node to which it leads
--   next_func_is   and its function
--   block_there    its block is one of the function
--   ends_at        and ends as it stands
--   path_calls     its call path
use Rattle.std.specs.Prelude.{slice_get}
use Rattle.std.proofs.Common.{◌≡◌, ◌<◌, ℕ, List, Option, Some, length, sym, ap, ◌∙◌}
use Rattle.std.proofs.lemmas.Option.{same_Some, slice_get-get_or, slice_get_within, get_or_from_slice_get}
use Rattle.alf_check.specs.CheckedPrograms.{NumberedProgram, seen}
use Rattle.flow_graph.specs.Nodes.{Node, Leads, function_at, first_node}
use Rattle.flow_graph.specs.Numbering.{IsGraph}
use Rattle.flow_graph.specs.Expansions.{IsExpansion, node_number}
use Rattle.flow_graph.specs.Paths.{IsPlaced}
use Rattle.transfer_rules.specs.NodeNumbers.{goal_number}
use Rattle.transfer_rules.specs.NumberLaws.{numbered}
use Rattle.transfer_rules.specs.PointLaws.{GraphsExpand}
use Rattle.flow_graph.specs.Edges.{HasEdge}
use Rattle.flow_graph.specs.EdgeLaws.{edge_to}
use Rattle.abstract_step.specs.Standing.{HereParts, IsHere, place_of, function_here}

module _ (here : HereParts) (firsts : List ℕ) (is : IsHere here firsts) where
  -- there is a node of this number
  pub node_here : slice_get here.graph.nodes here.node ≡ Some (place_of here)
  node_here = slice_get-get_or here.graph.nodes here.node first_node is.low

  -- what the graph tells of it
  pub place_is : (node : Node) → slice_get here.graph.nodes here.node ≡ Some node → place_of here ≡ node
  place_is node at = get_or_from_slice_get here.graph.nodes here.node node first_node at

  -- an edge leads where it leads
  edge_of : (goal : Node) → Leads (seen here.checked) (place_of here) (Some goal) → HasEdge here.graph here.node goal
  edge_of goal leads = edge_to (seen here.checked) here.graph is.is_graph here.node (place_of here) goal node_here leads

  -- the function of a node to which it leads
  pub next_func_is : (func : ℕ) → ((program : NumberedProgram) (goal : Node) → IsGraph program here.graph → HasEdge here.graph here.node goal → func ≡ function_at program goal.path)
      → (goal : Node) → Leads (seen here.checked) (place_of here) (Some goal) → func ≡ function_at (seen here.checked) goal.path
  next_func_is func told goal leads = told (seen here.checked) goal is.is_graph (edge_of goal leads)

  module _ (expand : GraphsExpand) where
    expansion : IsExpansion (seen here.checked) here.graph
    expansion = expand (seen here.checked) here.graph is.keeps is.is_graph

    -- its place
    pub placed : IsPlaced (seen here.checked) (place_of here)
    placed = (expansion.places here.node is.low).placed

    -- its function
    pub func_is : (func : ℕ) → slice_get here.graph.funcs here.node ≡ Some func → func ≡ function_here here
    func_is func at = same_Some func (function_here here) (sym at ∙ expansion.funcs here.node is.low)

    -- the number of a node to which it leads
    pub next_is : (block : Option ℕ) (next : ℕ) → ((goal : Node) → HasEdge here.graph here.node goal → goal.block ≡ block → slice_get here.graph.nodes next ≡ Some goal)
        → (goal : Node) → Leads (seen here.checked) (place_of here) (Some goal) → goal.block ≡ block → next ≡ goal_number here.graph (Some goal)
    next_is block next told goal leads same =
        let at = told goal (edge_of goal leads) same in
        let node : node_number here.graph next ≡ goal = get_or_from_slice_get here.graph.nodes next goal first_node at in
        let low : next < length here.graph.nodes = slice_get_within here.graph.nodes next goal at in
        sym (numbered (seen here.checked) here.graph expansion next low) ∙ ap (λ (n : Node). goal_number here.graph (Some n)) node
