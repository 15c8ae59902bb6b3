-- Why a report that is found is right.
--   low_start       the least numbers of the ranges are inputs
--   totals_in       of each node that was stepped some total was collected
--   told_in         the report is a told one
--   right_in        so it is sound, and its path bound is what the word says
--   agree_in        where there is one input alone, both bounds are one number
use Rattle.std.specs.Prelude.{All}
use lib.Signed.{≤ℤ_refl}
use Rattle.std.proofs.Common.{◌≡◌, ◌≤◌, ℕ, List, [], ◌∷◌, Option, None, Some, refl, sym, subst}
use Rattle.std.proofs.lemmas.List.Elements.{All-head, All-tail}
use Rattle.alf_ops.specs.declared.history.RunFault.{RunFault}
use Rattle.alf_check.specs.declared.rows.InputRow.{InputRow}
use Rattle.alf_check.specs.CheckedPrograms.{NumberedProgram, seen}
use Rattle.alf_check.specs.Inputs.{KeepsInput}
use Rattle.alf_runs.specs.Outcomes.{Outcome}
use Rattle.alf_runs.specs.Steps.{Moment}
use Rattle.alf_runs.specs.Starts.{AreWithin, IsStart}
use Rattle.alf_interp.specs.Traces.{Runs}
use Rattle.cost_table.specs.CostTables.{CostTable}
use Rattle.domain_core.specs.Outlines.{Outlined, shape_of}
use Rattle.flow_facts.specs.declared.fact.Fact.{Fact}
use Rattle.flow_facts.specs.Reports.{Reported}
use Rattle.worklist_rules.specs.declared.policy.Policy.{Policy}
use Rattle.worklist_rules.specs.Events.{HappenAll}
use Rattle.worklist_rules.specs.PolicyLaws.{run_happens}
use Rattle.transfer_rules.specs.Points.{points, moment_at}
use Rattle.memory_model.specs.SeenOrders.{parts_order}
use Rattle.memory_model.specs.SeenOrderLaws.{parts_are_order}
use Rattle.transfer_rules.specs.PartMachineLaws.{is_part_machine}
use Rattle.abstract_step.specs.Steppers.{StepperParts, stepped_by}
use Rattle.report_soundness.specs.ReportTold.{four_order, four_recording, found_of, told_report}
use Rattle.report_soundness.specs.Runs.{HasAlarm as HasFaultAlarm, IsSound as IsSoundSystem}
use Rattle.report_soundness.specs.Exact.{LoneRun}
use Rattle.report_soundness.specs.EventLaws.{sound_events}
use Rattle.report_soundness.specs.LoneLaws.{lone_report}
use Rattle.path_lp.specs.Bounding.{told_path_bound}
use Rattle.path_lp.specs.Holding.{IsRight, ToldBoundsAreRight}
use Rattle.report_soundness.specs.Bounded.{IsTold, HasRun, bounded, HasPathBound, IsPathSound, IsWithinCount}
use Rattle.report_soundness.specs.BoundedLaws.{facts_limited, bound_most, bounded_sound, sound_runs, events_totals, events_told, run_at_bound}
use Rattle.report_soundness.specs.BoundTold.{HaveTotals}
use Rattle.program_machines.specs.NodeCosts.{HasCosts}
use Rattle.program_machines.specs.ProgramRunLaws.{program_run, stands_there}
use Rattle.program_machines.specs.Starts.{AreLone, lows, lone_start}
use Rattle.program_machines.specs.StartLaws.{one_history}
use Rattle.program_analysis.specs.Analyses.{first_pool, IsClosed}
use Rattle.program_analysis.specs.Sound.{HasAlarmForOutcome}
use Rattle.program_analysis.specs.SoundLaws.{IsOutcomeOf, passes_runs, same_cost}
use Rattle.program_analysis.specs.LoneLaws.{AreFit, along_fit}
use Rattle.program_analysis.specs.BoundedSound.{IsSoundByBounds, IsRightFor}

-- ---- a program has a run

lows_within : (program : NumberedProgram) (rows : List InputRow) → All (KeepsInput program) rows
    → AreWithin rows (lows rows)
lows_within program [] each = tt
lows_within program (row ∷ rows) each = (
  record { least = ≤ℤ_refl row.low; most = (All-head (KeepsInput program) row rows each).ordered },
  lows_within program rows (All-tail (KeepsInput program) row rows each),
)

-- the least numbers of the ranges are inputs
pub low_start : (program : NumberedProgram) (rows : List InputRow) → All (KeepsInput program) rows
    → IsStart program rows (lone_start program rows)
low_start program rows each = record { numbers = lows rows; within = lows_within program rows each; starts = refl }

alarm_of : (facts : List Fact) (trace : List ℕ) (fault : Option RunFault) (outcome : Outcome)
    → IsOutcomeOf fault outcome → HasFaultAlarm facts trace fault → HasAlarmForOutcome trace outcome facts
alarm_of facts trace None outcome (outputs, is) alarm = subst (λ (end : Outcome). HasAlarmForOutcome trace end facts) (sym is) tt
alarm_of facts trace (Some fault) outcome is alarm = subst (λ (end : Outcome). HasAlarmForOutcome trace end facts) (sym is) alarm

-- ---- reports that are found

module _ (parts : StepperParts) (o : Outlined) (policy : Policy) (turns : ℕ) (fit : AreFit parts o) (given : Reported) (closed : IsClosed parts o policy turns given) where
  happen : HappenAll stepped_by parts_order four_order four_recording (first_pool parts o) closed.events closed.pool
  happen = run_happens stepped_by parts_order four_order four_recording policy turns closed.events (first_pool parts o) closed.pool closed.explored

  told_sound : IsSoundSystem (stepped_by parts).system o (told_report o (found_of closed.pool))
  told_sound = sound_events stepped_by parts_order closed.events parts o closed.pool parts_are_order
      (λ other kept. is_part_machine other.checked other.graph other.rows kept) fit.kept fit.outline (along_fit parts o fit) happen closed.empty

  given_sound : IsSoundSystem (stepped_by parts).system o given
  given_sound = subst (λ (r : Reported). IsSoundSystem (stepped_by parts).system o r) (sym closed.told) told_sound

  has_run : HasRun (stepped_by parts).system
  has_run =
      let program = seen parts.checked in
      let start = lone_start program parts.rows in
      sound_runs (stepped_by parts).system o given given_sound (points program parts.graph start)
      (program_run fit.kept.machine.promises.points program parts.graph fit.kept.machine.keeps fit.kept.machine.is parts.rows start
      (low_start program parts.rows fit.kept.machine.inputs.each))

  -- of each node that was stepped some total was collected
  pub totals_in : HaveTotals o (found_of closed.pool)
  totals_in =
      events_totals stepped_by parts_order closed.events parts o closed.pool parts_are_order
      (λ other kept. is_part_machine other.checked other.graph other.rows kept) fit.kept fit.outline (along_fit parts o fit) happen closed.empty has_run

  -- the report is a told one
  pub told_in : IsTold o given
  told_in = subst (IsTold o) (sym closed.told)
      (events_told stepped_by parts_order closed.events parts o closed.pool parts_are_order
      (λ other kept. is_part_machine other.checked other.graph other.rows kept) fit.kept fit.outline (along_fit parts o fit) happen closed.empty has_run)

  module _ (law : ToldBoundsAreRight) (pivots : ℕ) where
    right_bound : IsRight o given.facts pivots
    right_bound = law o given.facts pivots fit.outline (facts_limited o given told_in)

    within_in : IsWithinCount (bounded o given pivots)
    within_in = bound_most o given told_in (told_path_bound o given.facts pivots).0 right_bound.most

    path_sound : IsPathSound (stepped_by parts).system o (bounded o given pivots)
    path_sound = bounded_sound (stepped_by parts) o given (bounded o given pivots) pivots (along_fit parts o fit) told_in given_sound refl right_bound.above

    sound_in : (costs : CostTable) → HasCosts (seen parts.checked) parts.graph costs o
        → IsSoundByBounds (seen parts.checked) parts.graph parts.rows (shape_of o) costs (bounded o given pivots)
    sound_in costs priced start from =
        let program = seen parts.checked in
        let graph = parts.graph in
        let machine = fit.kept.machine in
        let run = given_sound.ends (points program graph start) (program_run machine.promises.points program graph machine.keeps machine.is parts.rows start from) in
        let right = given_sound.right run.start run.trace run.fault run.starts run.passes in
        let low = (path_sound.right run.start run.trace run.fault run.starts run.passes).bound in
        let so = passes_runs program graph parts.rows run.passes in
        let begins : start ≡ moment_at graph 0 run.start = stands_there machine.promises.points program graph machine.keeps machine.is parts.rows start from 0 0 run.start run.here in
        let runs : Runs program graph.nodes start run.trace so.outcome = subst (λ (m : Moment). Runs program graph.nodes m run.trace so.outcome) (sym begins) so.runs in
        let cost = same_cost program graph costs o run.trace runs.run priced runs.numbers in
        record {
          trace = run.trace;
          outcome = so.outcome;
          runs = runs;
          facts = right.facts;
          alarm = alarm_of given.facts run.trace run.fault so.outcome so.is right.alarm;
          count = subst (λ (k : ℕ). k ≤ given.count_bound) cost right.bound;
          path = subst (λ (k : ℕ). k ≤ (told_path_bound o given.facts pivots).0) cost low;
        }

    -- the report with its path bound is right
    pub right_in : (report : Reported) → report ≡ bounded o given pivots → IsRightFor parts o report
    right_in report is = subst (IsRightFor parts o) (sym is) (record { sound = sound_in; within = within_in; least = right_bound.least })

    lone_in : AreLone parts.rows → LoneRun (stepped_by parts).system o given has_run.trace
    lone_in lone = subst (λ (r : Reported). LoneRun (stepped_by parts).system o r has_run.trace) (sym closed.told)
        (lone_report stepped_by parts_order closed.events parts o closed.pool parts_are_order
        (λ other kept. is_part_machine other.checked other.graph other.rows kept) fit.kept fit.outline (along_fit parts o fit) happen closed.empty
        has_run.start has_run.trace has_run.fault has_run.starts (one_history (seen parts.checked) parts.rows lone) has_run.passes)

    -- where there is one input alone, both bounds are one number
    pub agree_in : AreLone parts.rows → (report : Reported) → report ≡ bounded o given pivots
        → HasPathBound (λ b. b.0 ≡ report.count_bound) report
    agree_in lone report is =
        let alone = lone_in lone in
        subst (λ (r : Reported). HasPathBound (λ b. b.0 ≡ r.count_bound) r) (sym is)
        (run_at_bound (stepped_by parts).system o (bounded o given pivots) path_sound within_in alone.start has_run.trace alone.fault alone.starts alone.passes (sym alone.exact.bound))
