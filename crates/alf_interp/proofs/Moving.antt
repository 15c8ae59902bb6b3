-- Steps of the machine, from node to node.
--   instance_at, caller_at   what holds of the node where the machine stands
--   at_node                  what holds of the step at this node holds of the step of each moment at which the machine stands
--   standing_low             where a machine stands, there is a node
--   told_on                  where the step goes on, the machine stands at the next node
use Rattle.std.proofs.Common.{◌≡◌, ◌<◌, ℕ, List, [], ◌∷◌, length, Option, Some, None, refl, ap, sym, ◌∙◌, subst}
use Rattle.std.specs.Prelude.{slice_get}
use Rattle.std.specs.Option.{option_map}
use Rattle.std.proofs.lemmas.Option.{same_Some, slice_get-map, slice_get_within}
use Rattle.std.proofs.lemmas.List.Elements.{All-contains}
use Rattle.lists.specs.MemberLaws.{contained}
use Rattle.alf_ops.specs.declared.history.RunEvent.{RunEvent}
use Rattle.alf_check.specs.CheckedPrograms.{CheckedParts, NumberedProgram, seen, BlockEnding}
use Rattle.alf_check.specs.Kept.{IsKept}
use Rattle.alf_values.specs.Memories.{RunMemory}
use Rattle.alf_values.specs.Standing.{StandsFor}
use Rattle.flow_graph.specs.Nodes.{Node, block_node, ending_at, function_at, BackLeads, ReturnLeads, EndLeads, Leads, IsKeptNode}
use Rattle.flow_graph.specs.Numbering.{GraphParts, IsGraph}
use Rattle.flow_graph.specs.Paths.{IsPlaced as IsThere, IsCallPath, HasBlock}
use Rattle.flow_graph.specs.PathLaws.{kept_is_placed}
use Rattle.alf_runs.specs.Steps.{Moment, At, Over, step}
use Rattle.alf_runs.specs.Places.{IsPlace}
use Rattle.alf_runs.specs.PlaceLaws.{IsPlaced, StepKeepsPlace}
use Rattle.alf_runs.specs.LeadLaws.{LeadsTo, StepsGoAlong}
use Rattle.alf_interp.specs.declared.moved.Moved.TheVariants as told
use Rattle.flow_graph.specs.Edges.{HasEdge}
use Rattle.alf_interp.specs.Machines.{RunMachine, StandsAt, StandsWith}
use Rattle.alf_interp.specs.Stepping.{machine_at}
use Rattle.alf_interp.specs.Telling.{Tells}
use Rattle.alf_interp.specs.Turns.{GoesOn, IsInstance, IsCaller, IsCallerOf}
use Rattle.flow_graph.specs.EdgeLaws.{edge_to}

-- where a machine stands, there is a node
pub standing_low : (machine : RunMachine) (moment : Moment) → StandsAt machine moment
    → machine.node < length machine.graph.nodes
standing_low machine (At node history) stands = slice_get_within machine.graph.nodes machine.node node stands.numbered
standing_low machine (Over outcome) stands = absurd stands

module _ (checked : CheckedParts) (graph : GraphParts) (kept : IsKept (seen checked)) (is : IsGraph (seen checked) graph) where
  abbrev program : NumberedProgram
  program = seen checked

  -- a node of the graph has a call path, and its block is one of the function there
  is_there : (number : ℕ) (node : Node) → slice_get graph.nodes number ≡ Some node → IsThere program node
  is_there number node at = kept_is_placed program kept node (All-contains (IsKeptNode program) graph.nodes node is.numbered.kept (contained graph.nodes number node at))

  -- its function
  func_at : (number : ℕ) (node : Node) (func : ℕ) → slice_get graph.nodes number ≡ Some node
      → slice_get graph.funcs number ≡ Some func → func ≡ function_at program node.path
  func_at number node func at funcs =
      let of : Node → ℕ = λ (n : Node). function_at program n.path in
      same_Some func (of node) (sym funcs ∙ ap (λ (fs : List ℕ). slice_get fs number) is.funcs ∙ slice_get-map of graph.nodes number ∙ ap (option_map of) at)

  pub instance_at : (number : ℕ) (node : Node) (func : ℕ) → slice_get graph.nodes number ≡ Some node
      → slice_get graph.funcs number ≡ Some func → IsInstance program node.path func
  instance_at number node func at funcs =
      let there = is_there number node at in
      let same = func_at number node func at funcs in
      record { calls = there.path; func_is = same; there = subst (λ (f : ℕ). f < length program.funcs) (sym same) there.function }

  pub block_at : (number : ℕ) (node : Node) (func : ℕ) → slice_get graph.nodes number ≡ Some node
      → slice_get graph.funcs number ≡ Some func → HasBlock program func node.block
  block_at number node func at funcs = subst (λ (f : ℕ). HasBlock program f node.block) (sym (func_at number node func at funcs)) ((is_there number node at).block)

  -- where a node returns, the function of the last call is that of the nodes to which edges lead
  pub caller_at : (number : ℕ) (node : Node) (caller : ℕ) → slice_get graph.nodes number ≡ Some node
      → ((goal : Node) → HasEdge graph number goal → caller ≡ function_at program goal.path) → IsCaller program node.path node.block caller
  caller_at number node caller at each = by_block node.block (λ next leads. edge_to program graph is number node next at leads) where
    of_return : (path : List ℕ) → IsCallPath program path
        → ((next : Node) → ReturnLeads program path (Some next) → HasEdge graph number next)
        → IsCallerOf program path caller
    of_return [] calls edge = tt
    of_return (c ∷ path) calls edge =
        let call = calls.0 in
        let next : Node = block_node path call.next in
        let leads : BackLeads path (ending_at program (function_at program path) c) (Some next) =
        subst (λ (ending : Option BlockEnding). BackLeads path ending (Some next)) (sym call.ends) refl in
        each next (edge next leads)

    by_block : (block : Option ℕ) → ((next : Node) → Leads program (record { path = node.path; block = block }) (Some next) → HasEdge graph number next) → IsCaller program node.path block caller
    by_block None edge = tt
    by_block (Some b) edge = λ value ends. of_return node.path ((is_there number node at).path)
        (λ next leads. edge next (subst (λ (ending : Option BlockEnding). EndLeads program node.path b ending (Some next)) (sym ends) leads))

  module _ (along : StepsGoAlong) (keeps : StepKeepsPlace) (number : ℕ) (node : Node) (old new : RunMemory) (at : slice_get graph.nodes number ≡ Some node) where
    -- what holds of the step at this node holds of the step of each moment at which the machine stands
    pub at_node : (P : Moment → Type 0) → ((history : List RunEvent) → StandsFor old history → IsPlaced program (step program (At node history)) → P (step program (At node history)))
        → (moment : Moment) → StandsAt (machine_at checked graph number old) moment → P (step program moment)
    at_node P each (At other history) stands =
        let same : other ≡ node = same_Some other node (sym stands.numbered ∙ at) in
        let placed = subst (λ (n : Node). IsPlace program n history) same stands.placed in
        subst (λ (n : Node). P (step program (At n history))) (sym same) (each history stands.remembers (keeps program node history kept placed))
    at_node P each (Over outcome) stands = absurd stands

    -- where the step goes on, the machine stands at the next node
    pub told_on : (block : Option ℕ) (next : ℕ) → ((history : List RunEvent) → StandsFor old history → IsPlaced program (step program (At node history)) → GoesOn new block (step program (At node history)))
        → ((goal : Node) → HasEdge graph number goal → goal.block ≡ block → slice_get graph.nodes next ≡ Some goal)
        → (moment : Moment) → StandsAt (machine_at checked graph number old) moment → Tells (machine_at checked graph next new) (told.To next) (step program moment)
    told_on block next turns numbers = at_node (Tells (machine_at checked graph next new) (told.To next)) (λ history remembers placed.
        let on = turns history remembers placed in
        let leads = subst (LeadsTo (Leads program node)) on.is (along program node history) in
        let stands : StandsWith (machine_at checked graph next new) on.node on.history = record {
          numbered = numbers on.node (edge_to program graph is number node on.node at leads) on.block_is;
          remembers = on.stands;
          placed = subst (IsPlaced program) on.is placed;
        } in
        subst (Tells (machine_at checked graph next new) (told.To next)) (sym on.is) (refl, stands))
