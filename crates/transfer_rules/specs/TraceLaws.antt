-- The nodes of a run, by their numbers.
--   TraceIsTrace     the nodes of the first t moments, the newest first, are the nodes of the run's first t
--       steps turned round
use Rattle.std.specs.Prelude.{reverse}
use Rattle.std.proofs.Common.{◌≡◌, ℕ, zero, suc, List, ◌∷◌, ◌++◌, map, refl, ap, sym, ◌∙◌}
use Rattle.std.proofs.lemmas.List.{reverse-append, map-append}
use Rattle.alf_check.specs.CheckedPrograms.{NumberedProgram}
use Rattle.flow_graph.specs.Nodes.{Node}
use Rattle.flow_graph.specs.Numbering.{GraphParts}
use Rattle.alf_runs.specs.Outcomes.{Outcome}
use Rattle.alf_runs.specs.Steps.{Moment, At, Over, step}
use Rattle.alf_runs.specs.Runs.{after, trace}
use Rattle.domain_core.specs.SystemRuns.{with_node, trace_to}
use Rattle.transfer_rules.specs.NodeNumbers.{number_of}
use Rattle.transfer_rules.specs.Points.{point_of, points}

-- the nodes of the first t moments, the newest first, are the nodes of the run's first t steps turned round
abbrev pub TraceIsTrace : Type 0
TraceIsTrace = (program : NumberedProgram) (graph : GraphParts) (moment : Moment) (t : ℕ) → trace_to (points program graph moment) t ≡ reverse (map (number_of graph.nodes) (trace program t moment))

-- what is over stays over
stays_over : (program : NumberedProgram) (t : ℕ) (outcome : Outcome) → after program t (Over outcome) ≡ Over outcome
stays_over program zero outcome = refl
stays_over program (suc t) outcome = stays_over program t outcome

-- one step more has one node more
one_more : (program : NumberedProgram) (t : ℕ) (moment : Moment)
    → trace program (suc t) moment ≡ trace program t moment ++ trace program 1 (after program t moment)
one_more program zero moment = refl
one_more program (suc t) (At node history) = ap (λ (nodes : List Node). node ∷ nodes) (one_more program t (step program (At node history)))
one_more program (suc t) (Over outcome) = ap (trace program 1) (sym (stays_over program t outcome))

-- the node of a moment, before those that came earlier
node_first : (program : NumberedProgram) (graph : GraphParts) (moment : Moment) (past : List ℕ)
    → with_node (point_of graph moment) past ≡ reverse (map (number_of graph.nodes) (trace program 1 moment)) ++ past
node_first program graph (At node history) past = refl
node_first program graph (Over outcome) past = refl

pub trace_is_trace : TraceIsTrace
trace_is_trace program graph moment zero = refl
trace_is_trace program graph moment (suc t) =
    let number = number_of graph.nodes in
    let last = trace program 1 (after program t moment) in
    node_first program graph (after program t moment) (trace_to (points program graph moment) t)
    ∙ ap (λ (past : List ℕ). reverse (map number last) ++ past) (trace_is_trace program graph moment t)
    ∙ sym (reverse-append (map number (trace program t moment)) (map number last))
    ∙ ap reverse (sym (map-append number (trace program t moment) last))
    ∙ ap (λ (nodes : List Node). reverse (map number nodes)) (sym (one_more program t moment))
