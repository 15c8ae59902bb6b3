-- Laws of the points of runs.
--   Promises               what the crates below promise of runs and graphs
--   GoesAlong, EndsAlong   a next point lies along an edge of the graph, and so does an end
--   RunIsRun               a run of the program from a start inside the ranges is a run of its system
--   HasOneWay              each point has one next point, or it is an end, or it has one fault
use Rattle.std.proofs.Common.{◌≡◌, ◌≢◌, inl, inr, ◌<◌, ℕ, zero, suc, List, length, None, Some, refl, ap, sym, subst, ◌∙◌}
use Rattle.std.proofs.lemmas.Option.{get_or_from_slice_get, same_Some}
use Rattle.lists.specs.MemberLaws.{placed}
use Rattle.alf_ops.specs.declared.history.RunEvent.{RunEvent}
use Rattle.alf_ops.specs.declared.history.RunFault.{RunFault}
use Rattle.alf_check.specs.declared.rows.InputRow.{InputRow}
use Rattle.alf_check.specs.CheckedPrograms.{NumberedProgram}
use Rattle.alf_check.specs.Kept.{IsKept}
use Rattle.flow_graph.specs.Nodes.{Node, Leads, IsKeptNode, first_node}
use Rattle.flow_graph.specs.Numbering.{GraphParts, IsGraph}
use Rattle.flow_graph.specs.Expansions.{IsExpansion, HasEdge, node_number}
use Rattle.alf_runs.specs.Outcomes.{Outcome, Outputs, Ended, Faulted, Lost}
use Rattle.alf_runs.specs.Steps.{Moment, At, Over, step}
use Rattle.alf_runs.specs.Runs.{after}
use Rattle.alf_runs.specs.Starts.{IsStart, start_history, words_of}
use Rattle.alf_runs.specs.LeadLaws.{LeadsTo, StepsGoAlong, StandsAtKeptNodes}
use Rattle.alf_runs.specs.PlaceLaws.{NeverLost, InputsAreWords}
use Rattle.domain_core.specs.SystemRuns.{IsRun, GoesOn as GoesFrom}
use Rattle.transfer_rules.specs.NodeNumbers.{number_of}
use Rattle.transfer_rules.specs.NumberLaws.{numbered}
use Rattle.transfer_rules.specs.Points.{moment_at, run_system, point_of, points, IsOneWay}

abbrev pub GraphsExpand : Type 0
GraphsExpand = (program : NumberedProgram) (graph : GraphParts) → IsKept program → IsGraph program graph → IsExpansion program graph

-- what the crates below promise of runs and graphs
pub record Promises : Type 0 where
  pub expands : GraphsExpand
  pub along : StepsGoAlong
  pub kept : StandsAtKeptNodes
  pub found : NeverLost
  pub inputs : InputsAreWords

-- ---- the laws

-- a next point lies along an edge of the graph
abbrev pub GoesAlong : Type 0
GoesAlong = (program : NumberedProgram) (graph : GraphParts) (rows : List InputRow) (n k : ℕ) (before later : List RunEvent)
    → IsKept program → IsGraph program graph → (run_system program graph rows).goes n before k later
    → HasEdge graph n k × (k < length graph.nodes)

-- and so does an end
abbrev pub EndsAlong : Type 0
EndsAlong = (program : NumberedProgram) (graph : GraphParts) (rows : List InputRow) (n : ℕ) (history : List RunEvent)
    → IsKept program → IsGraph program graph → (run_system program graph rows).ends n history
    → HasEdge graph n (length graph.nodes)

-- a run of the program from a start inside the ranges is a run of its system
abbrev pub RunIsRun : Type 0
RunIsRun = (program : NumberedProgram) (graph : GraphParts) (rows : List InputRow) (moment : Moment)
    → IsKept program → IsGraph program graph → IsStart program rows moment
    → IsRun (run_system program graph rows) (points program graph moment)

-- each point has one next point, or it is an end, or it has one fault
abbrev pub HasOneWay : Type 0
HasOneWay = (program : NumberedProgram) (graph : GraphParts) (rows : List InputRow) (n : ℕ) (history : List RunEvent)
    → IsKept program → IsGraph program graph → IsOneWay (run_system program graph rows) n history

-- ---- edges

module _ (promises : Promises) where
  pub goes_along : GoesAlong
  goes_along program graph rows n k before later keeps is goes =
      let expansion = promises.expands program graph keeps is in
      let leads : Leads program (node_number graph n) (Some (node_number graph k)) =
      subst (LeadsTo (Leads program (node_number graph n))) goes.steps (promises.along program (node_number graph n) before) in
      let edge = expansion.all n (node_number graph k) goes.from leads in
      let same : edge.0 ≡ k = expansion.apart edge.0 k edge.1 goes.to edge.2 in
      (subst (HasEdge graph n) same edge.3, goes.to)

  pub ends_along : EndsAlong
  ends_along program graph rows n history keeps is ends =
      let expansion = promises.expands program graph keeps is in
      let leads : Leads program (node_number graph n) None =
      subst (LeadsTo (Leads program (node_number graph n))) ends.steps (promises.along program (node_number graph n) history) in
      expansion.all_ends n ends.from leads

-- ---- one way

-- the node and the history of a moment
abbrev node_of : Moment → Node → Node
node_of (At node history) other = node
node_of (Over outcome) other = other

abbrev history_of : Moment → List RunEvent → List RunEvent
history_of (At node history) other = history
history_of (Over outcome) other = other

at_or_over : (node : Node) (history : List RunEvent) (outcome : Outcome) → At node history ≡ Over outcome → ⊥
at_or_over node history outcome e = cc

ends_or_fails : (outputs : Outputs) (fault : RunFault) → Over (Ended outputs) ≡ Over (Faulted fault) → ⊥
ends_or_fails outputs fault e = cc

same_fault : (fault other : RunFault) → Over (Faulted fault) ≡ Over (Faulted other) → fault ≡ other
same_fault fault other e = cc

module _ (promises : Promises) where
  pub has_one_way : HasOneWay
  has_one_way program graph rows n history keeps is = record {
    next = λ k j d e goes other.
        let expansion = promises.expands program graph keeps is in
        let same : moment_at graph k d ≡ moment_at graph j e = sym goes.steps ∙ other.steps in
        let node : node_number graph k ≡ node_number graph j = ap (λ (m : Moment). node_of m first_node) same in
        (expansion.apart k j goes.to other.to node, ap (λ (m : Moment). history_of m history) same);
    fault = λ kind other fails more. same_fault kind other (sym fails.steps ∙ more.steps);
    goes_or_ends = λ k d goes ends. at_or_over (node_number graph k) d (Ended ends.outputs) (sym goes.steps ∙ ends.steps);
    goes_or_fails = λ k d kind goes fails. at_or_over (node_number graph k) d (Faulted kind) (sym goes.steps ∙ fails.steps);
    ends_or_fails = λ kind ends fails. ends_or_fails ends.outputs kind (sym ends.steps ∙ fails.steps);
  }

-- ---- runs

-- one step more
after_step : (program : NumberedProgram) (t : ℕ) (moment : Moment)
    → after program (suc t) moment ≡ step program (after program t moment)
after_step program zero moment = refl
after_step program (suc t) moment = after_step program t (step program moment)

-- the parts of a point
same_point : (p q : ℕ × List RunEvent) → Some p ≡ Some q → p ≡ q
same_point p q e = same_Some p q e

no_point : (p : ℕ × List RunEvent) → None ≡ Some p → ⊥
no_point p e = cc

-- a kept node stands at its number
pub record StandsAt (graph : GraphParts) (node : Node) : Type 0 where
  pub low : number_of graph.nodes node < length graph.nodes
  pub is : node_number graph (number_of graph.nodes node) ≡ node

module _ (promises : Promises) (program : NumberedProgram) (graph : GraphParts) (keeps : IsKept program) (is : IsGraph program graph) where
  pub stands_at : (node : Node) → IsKeptNode program node → StandsAt graph node
  stands_at node kept =
      let expansion = promises.expands program graph keeps is in
      let among = is.numbered.all node kept in
      let at : node_number graph among.0 ≡ node = get_or_from_slice_get graph.nodes among.0 node first_node (placed graph.nodes node among) in
      let low : among.0 < length graph.nodes = among.1 in
      let number : number_of graph.nodes node ≡ among.0 = ap (number_of graph.nodes) (sym at) ∙ numbered program graph expansion among.0 low in
      record { low = subst (λ (k : ℕ). k < length graph.nodes) (sym number) low; is = ap (node_number graph) number ∙ at }

  module _ (rows : List InputRow) (moment : Moment) (from : IsStart program rows moment) where
    -- each node of the run is kept
    at_kept : (t : ℕ) (node : Node) (history : List RunEvent) → after program t moment ≡ At node history
        → IsKeptNode program node
    at_kept t node history e = promises.kept program t (start_history program rows (words_of rows from.numbers)) history node (ap (after program t) (sym from.starts) ∙ e)

    not_lost : (t : ℕ) → after program t moment ≢ Over Lost
    not_lost t e =
        promises.found program rows (words_of rows from.numbers) t keeps (promises.inputs rows from.numbers from.within) (ap (after program t) (sym from.starts) ∙ e)

    -- how the run goes on from a node
    on_from : (t : ℕ) (node : Node) (history : List RunEvent) (result : Moment)
        → after program t moment ≡ At node history → step program (At node history) ≡ result
        → GoesFrom (run_system program graph rows) (points program graph moment) t (number_of graph.nodes node) history
    on_from t node history (At next later) e steps =
        let here = stands_at node (at_kept t node history e) in
        let then : after program (suc t) moment ≡ At next later = after_step program t moment ∙ ap (step program) e ∙ steps in
        let there = stands_at next (at_kept (suc t) next later then) in
        inl (
          number_of graph.nodes next,
          later,
          record { from = here.low; to = there.low; steps = ap (λ (k : Node). step program (At k history)) here.is ∙ steps ∙ ap (λ (k : Node). At k later) (sym there.is) },
          ap (point_of graph) then,
        )
    on_from t node history (Over (Ended outputs)) e steps =
        let here = stands_at node (at_kept t node history e) in
        let then : after program (suc t) moment ≡ Over (Ended outputs) = after_step program t moment ∙ ap (step program) e ∙ steps in
        inr (inl (record { from = here.low; outputs = outputs; steps = ap (λ (k : Node). step program (At k history)) here.is ∙ steps }), ap (point_of graph) then)
    on_from t node history (Over (Faulted fault)) e steps =
        let here = stands_at node (at_kept t node history e) in
        let then : after program (suc t) moment ≡ Over (Faulted fault) = after_step program t moment ∙ ap (step program) e ∙ steps in
        inr (inr (fault, record { from = here.low; steps = ap (λ (k : Node). step program (At k history)) here.is ∙ steps }), ap (point_of graph) then)
    on_from t node history (Over Lost) e steps =
        let then : after program (suc t) moment ≡ Over Lost = after_step program t moment ∙ ap (step program) e ∙ steps in
        absurd (not_lost (suc t) then)

    on : (t n : ℕ) (c : List RunEvent) → points program graph moment t ≡ Some (n, c)
        → GoesFrom (run_system program graph rows) (points program graph moment) t n c
    on t n c e = go (after program t moment) refl e
      where
        go : (result : Moment) → after program t moment ≡ result → point_of graph result ≡ Some (n, c)
            → GoesFrom (run_system program graph rows) (points program graph moment) t n c
        go (At node history) there is_point =
            let parts = same_point (number_of graph.nodes node, history) (n, c) is_point in
            let number : number_of graph.nodes node ≡ n = ap (λ (p : ℕ × List RunEvent). p.0) parts in
            let same : history ≡ c = ap (λ (p : ℕ × List RunEvent). p.1) parts in
            subst (λ (k : ℕ). GoesFrom (run_system program graph rows) (points program graph moment) t k c) number
            (subst (λ (h : List RunEvent). GoesFrom (run_system program graph rows) (points program graph moment) t (number_of graph.nodes node) h) same
            (on_from t node history (step program (At node history)) there refl))
        go (Over outcome) there is_point = absurd (no_point (n, c) is_point)

    first_point : (c : List RunEvent) × (points program graph moment 0 ≡ Some (0, c))
        × (run_system program graph rows).starts c
    first_point =
        let expansion = promises.expands program graph keeps is in
        let zero_is : number_of graph.nodes first_node ≡ 0 = ap (number_of graph.nodes) (sym expansion.first) ∙ numbered program graph expansion 0 expansion.some in
        let history = start_history program rows (words_of rows from.numbers) in (
          history,
          ap (point_of graph) from.starts ∙ ap (λ (k : ℕ). Some (k, history)) zero_is,
          record { numbers = from.numbers; within = from.within; starts = refl },
        )

    pub point_run : IsRun (run_system program graph rows) (points program graph moment)
    point_run = record { first = first_point; on = on }
