-- On the way to the laws of program run.
--   system_run       each run of the system is one of the program
--   end_is_over      where the program's run ends, the system's is over
use Rattle.std.proofs.Common.{◌≡◌, inl, inr, ℕ, zero, suc, List, Option, None, Some, refl, ap, sym, ◌∙◌, arith}
use Rattle.std.proofs.lemmas.Option.{none-some, same_Some}
use Rattle.alf_ops.specs.declared.history.RunEvent.{RunEvent}
use Rattle.alf_check.specs.declared.rows.InputRow.{InputRow}
use Rattle.alf_check.specs.CheckedPrograms.{NumberedProgram}
use Rattle.alf_check.specs.Kept.{IsKept}
use Rattle.flow_graph.specs.Nodes.{first_node}
use Rattle.flow_graph.specs.Numbering.{GraphParts, IsGraph}
use Rattle.alf_runs.specs.Outcomes.{Outcome, Ended, Faulted}
use Rattle.alf_runs.specs.Steps.{Moment, At, Over}
use Rattle.alf_runs.specs.Starts.{IsStart}
use Rattle.alf_interp.specs.Traces.{Runs}
use Rattle.domain_core.specs.Machines.{System}
use Rattle.domain_core.specs.SystemRuns.{IsRun, GoesOn}
use Rattle.transfer_rules.specs.NodeNumbers.{number_of}
use Rattle.transfer_rules.specs.Points.{run_system, point_of, points, IsOneWay}
use Rattle.transfer_rules.specs.PointLaws.{Promises, has_one_way}
use Rattle.program_machines.specs.ProgramRuns.{IsAliveTo, IsProgramRun, IsLastPoint}
use Rattle.program_machines.specs.ProgramRunLaws.{program_run}

-- ---- two runs of one system that come to one point are one after it

same_next : {C : Type 0} (system : System C) (run other : ℕ → Option (ℕ × C)) (k n : ℕ) (c : C) → IsOneWay system n c
    → GoesOn system run k n c → GoesOn system other k n c → run (suc k) ≡ other (suc k)
same_next {C} system run other k n c way (inl (j, d, goes, next)) (inl (i, e, went, later)) =
    let same = way.next j i d e goes went in
    next ∙ ap (λ (m : ℕ). Some (m, d)) same.0 ∙ ap (λ (v : C). Some (i, v)) same.1 ∙ sym later
same_next {C} system run other k n c way (inl (j, d, goes, next)) (inr (inl ends, over)) = absurd (way.goes_or_ends j d goes ends)
same_next {C} system run other k n c way (inl (j, d, goes, next)) (inr (inr (kind, fails), over)) = absurd (way.goes_or_fails j d kind goes fails)
same_next {C} system run other k n c way (inr (inl ends, over)) (inl (j, d, goes, next)) = absurd (way.goes_or_ends j d goes ends)
same_next {C} system run other k n c way (inr (inr (kind, fails), over)) (inl (j, d, goes, next)) = absurd (way.goes_or_fails j d kind goes fails)
same_next {C} system run other k n c way (inr (how, over)) (inr (ending, past)) = over ∙ sym past

module _ (promises : Promises) (program : NumberedProgram) (graph : GraphParts) (keeps : IsKept program) (is : IsGraph program graph) (rows : List InputRow) where
  one_way : (n : ℕ) (history : List RunEvent) → IsOneWay (run_system program graph rows) n history
  one_way n history = has_one_way promises program graph rows n history keeps is

  -- ---- runs of the system

  module _ (run : ℕ → Option (ℕ × List RunEvent)) (is_run : IsRun (run_system program graph rows) run) where
    abbrev start_of : Moment
    start_of = At first_node (is_run.first).0

    starts_inside : IsStart program rows start_of
    starts_inside = (is_run.first).2

    same_points : (k : ℕ) → IsAliveTo run k → run k ≡ points program graph start_of k
    same_points zero alive =
        let begun = (program_run promises program graph keeps is rows start_of starts_inside).first in
        let both = same_Some (number_of graph.nodes first_node, (is_run.first).0) (0, begun.0) begun.1 in
        let history : (is_run.first).0 ≡ begun.0 = ap (λ (p : ℕ × List RunEvent). p.1) both in
        (is_run.first).1 ∙ ap (λ (h : List RunEvent). Some (0, h)) history ∙ sym begun.1
    same_points (suc k) alive =
        let (p, here) = alive k (omega arith) in
        let there : points program graph start_of k ≡ Some (p.0, p.1) = sym (same_points k (λ j low. alive j (omega arith))) ∙ here in
        same_next (run_system program graph rows) run (points program graph start_of) k p.0 p.1 (one_way p.0 p.1) (is_run.on k p.0 p.1 here) ((program_run promises program graph keeps is rows start_of starts_inside).on k p.0 p.1 there)

    -- each run of the system is one of the program
    pub system_run : IsProgramRun program graph rows run
    system_run = record { start = start_of; inside = starts_inside; same = same_points }

  -- ---- runs that are over

  module _ (start : Moment) (from : IsStart program rows start) where
    -- the last point before a moment at which the run is over
    last_before : (t : ℕ) → points program graph start t ≡ None → IsLastPoint (points program graph start)
    last_before zero none =
        let begun = (program_run promises program graph keeps is rows start from).first in absurd (none-some (0, begun.0) (sym none ∙ begun.1))
    last_before (suc t) none = go (points program graph start t) refl (last_before t)
      where
        go : (point : Option (ℕ × List RunEvent)) → points program graph start t ≡ point
            → (points program graph start t ≡ None → IsLastPoint (points program graph start))
            → IsLastPoint (points program graph start)
        go None here before = before here
        go (Some point) here before = record { last = t; node = point.0; value = point.1; here = here; over = none }

    -- where the program's run ends, the system's is over
    pub end_is_over : (trace : List ℕ) (outcome : Outcome) → Runs program graph.nodes start trace outcome
        → IsLastPoint (points program graph start)
    end_is_over trace outcome runs = last_before runs.ends.steps (ap (point_of graph) runs.ends.over)
