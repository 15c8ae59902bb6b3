-- The runs of a program are the runs of its machine's system.
--   program_run      each run of the program is a run of the system
--   over_is_over     where the system's run is over, the program's has ended
use Rattle.std.specs.Prelude.{reverse}
use Rattle.std.proofs.Common.{◌≡◌, inl, inr, ℕ, zero, suc, List, ◌∷◌, map, Option, None, Some, refl, ap, sym, subst, ◌∙◌}
use Rattle.std.proofs.lemmas.List.{reverse-reverse}
use Rattle.std.proofs.lemmas.Option.{none-some, same_Some, slice_get-get_or}
use Rattle.alf_ops.specs.declared.history.RunEvent.{RunEvent}
use Rattle.alf_check.specs.declared.rows.InputRow.{InputRow}
use Rattle.alf_check.specs.CheckedPrograms.{NumberedProgram}
use Rattle.alf_check.specs.Kept.{IsKept}
use Rattle.flow_graph.specs.Nodes.{Node, first_node, IsKeptNode}
use Rattle.flow_graph.specs.Numbering.{GraphParts, IsGraph}
use Rattle.flow_graph.specs.Expansions.{node_number}
use Rattle.alf_runs.specs.Outcomes.{Outcome, Ended, Faulted}
use Rattle.alf_runs.specs.Steps.{Moment, At, Over, step}
use Rattle.alf_runs.specs.Runs.{after, trace}
use Rattle.alf_runs.specs.Starts.{IsStart, start_history, words_of}
use Rattle.alf_interp.specs.Traces.{Runs, IsNodeAt, AreNumbersOf}
use Rattle.domain_core.specs.SystemRuns.{IsRun, GoesOn, trace_to, with_node}
use Rattle.transfer_rules.specs.NodeNumbers.{number_of}
use Rattle.transfer_rules.specs.Points.{run_system, moment_at, point_of, points}
use Rattle.transfer_rules.specs.PointLaws.{Promises, point_run, stands_at}
use Rattle.transfer_rules.specs.TraceLaws.{trace_is_trace}
use Rattle.program_machines.specs.ProgramRuns.{IsOverAs}

-- one step more
after_step : (program : NumberedProgram) (t : ℕ) (moment : Moment)
    → after program (suc t) moment ≡ step program (after program t moment)
after_step program zero moment = refl
after_step program (suc t) moment = after_step program t (step program moment)

-- ---- two runs of one system that come to one point are one after it

module _ (promises : Promises) (program : NumberedProgram) (graph : GraphParts) (keeps : IsKept program) (is : IsGraph program graph) (rows : List InputRow) where
  -- each run of the program is a run of the system
  pub program_run : (start : Moment) → IsStart program rows start
      → IsRun (run_system program graph rows) (points program graph start)
  program_run start from = point_run promises program graph keeps is rows start from

  -- ---- runs that are over

  module _ (start : Moment) (from : IsStart program rows start) where
    kept_at : (t : ℕ) (node : Node) (history : List RunEvent) → after program t start ≡ At node history
        → IsKeptNode program node
    kept_at t node history e = promises.kept program t (start_history program rows (words_of rows from.numbers)) history node (ap (after program t) (sym from.starts) ∙ e)

    at_number : (node : Node) → IsKeptNode program node → IsNodeAt graph.nodes (number_of graph.nodes node) node
    at_number node kept =
        let stands = stands_at promises program graph keeps is node kept in
        slice_get-get_or graph.nodes (number_of graph.nodes node) first_node stands.low ∙ ap Some stands.is

    numbers_are : (t : ℕ) (moment : Moment) → ((u : ℕ) (node : Node) (history : List RunEvent) → after program u moment ≡ At node history → IsKeptNode program node)
        → AreNumbersOf graph.nodes (map (number_of graph.nodes) (trace program t moment)) (trace program t moment)
    numbers_are zero moment kept = tt
    numbers_are (suc t) (At node history) kept = (at_number node (kept 0 node history refl), numbers_are t (step program (At node history)) (λ u. kept (suc u)))
    numbers_are (suc t) (Over outcome) kept = tt

    -- where the program's run is over after so many steps, its nodes have these numbers
    ended_as : (t : ℕ) (outcome : Outcome) → after program t start ≡ Over outcome
        → Runs program graph.nodes start (reverse (trace_to (points program graph start) t)) outcome
    ended_as t outcome over =
        let turned : reverse (trace_to (points program graph start) t) ≡ map (number_of graph.nodes) (trace program t start) =
        ap reverse (trace_is_trace program graph start t) ∙ reverse-reverse (map (number_of graph.nodes) (trace program t start)) in
        record {
          run = trace program t start;
          ends = record { steps = t; over = over; passes = refl };
          numbers = subst (λ (numbers : List ℕ). AreNumbersOf graph.nodes numbers (trace program t start)) (sym turned) (numbers_are t start kept_at);
        }

    -- where a run stands at its last point
    pub stands_there : (t n : ℕ) (history : List RunEvent) → points program graph start t ≡ Some (n, history)
        → after program t start ≡ At (node_number graph n) history
    stands_there t n history here = go (after program t start) refl here
      where
        go : (moment : Moment) → after program t start ≡ moment → point_of graph moment ≡ Some (n, history)
            → after program t start ≡ At (node_number graph n) history
        go (At node events) at point =
            let parts = same_Some (number_of graph.nodes node, events) (n, history) point in
            let number : number_of graph.nodes node ≡ n = ap (λ (p : ℕ × List RunEvent). p.0) parts in
            let same : events ≡ history = ap (λ (p : ℕ × List RunEvent). p.1) parts in
            let stands = stands_at promises program graph keeps is node (kept_at t node events at) in
            at ∙ ap (λ (m : Node). At m events) (sym stands.is ∙ ap (node_number graph) number) ∙ ap (At (node_number graph n)) same
        go (Over outcome) at point = absurd (none-some (n, history) point)

    -- one step more
    next_after : (t n : ℕ) (history : List RunEvent) (result : Moment)
        → points program graph start t ≡ Some (n, history) → step program (moment_at graph n history) ≡ result
        → after program (suc t) start ≡ result
    next_after t n history result here steps = after_step program t start ∙ ap (step program) (stands_there t n history here) ∙ steps

    over_with : (last n : ℕ) (history : List RunEvent) (outcome : Outcome)
        → points program graph start last ≡ Some (n, history) → after program (suc last) start ≡ Over outcome
        → Runs program graph.nodes start (reverse (n ∷ trace_to (points program graph start) last)) outcome
    over_with last n history outcome here over =
        subst (λ (point : Option (ℕ × List RunEvent)). Runs program graph.nodes start (reverse (with_node point (trace_to (points program graph start) last))) outcome) here (ended_as (suc last) outcome over)

    -- where the system's run is over, the program's has ended
    pub over_is_over : (last n : ℕ) (history : List RunEvent) → points program graph start last ≡ Some (n, history)
        → points program graph start (suc last) ≡ None → IsOverAs program graph rows start last n history
    over_is_over last n history here over = go ((program_run start from).on last n history here)
      where
        go : GoesOn (run_system program graph rows) (points program graph start) last n history
            → IsOverAs program graph rows start last n history
        go (inl (k, later, goes, next)) = absurd (none-some (k, later) (sym over ∙ next))
        go (inr (inl ends, past)) =
            record { outcome = Ended ends.outputs; ends = ends; runs = over_with last n history (Ended ends.outputs) here (next_after last n history (Over (Ended ends.outputs)) here ends.steps) }
        go (inr (inr (kind, fails), past)) =
            record { outcome = Faulted kind; ends = fails; runs = over_with last n history (Faulted kind) here (next_after last n history (Over (Faulted kind)) here fails.steps) }
