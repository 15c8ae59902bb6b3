-- On the way to the laws of exact.
--   told_exactly                         why
use Rattle.std.proofs.Common.{◌≡◌, ◌≤◌, ℕ, suc, List, [], ◌∷◌, length, Option, refl, sym, ap, subst, ◌∙◌, arith}
use Rattle.alf_ops.specs.declared.history.RunEvent.{RunEvent}
use Rattle.alf_ops.specs.declared.history.RunFault.{RunFault}
use Rattle.alf_check.specs.CheckedPrograms.{seen}
use Rattle.flow_graph.specs.Nodes.{Node, first_node}
use Rattle.alf_runs.specs.Steps.{Moment, At}
use Rattle.alf_runs.specs.RunLaws.{HasOneEnd}
use Rattle.alf_interp.specs.Traces.{Runs, AreNumbersOf}
use Rattle.transfer_rules.specs.Points.{moment_at}
use Rattle.domain_core.specs.Outlines.{Outlined}
use Rattle.flow_facts.specs.Reports.{Reported}
use Rattle.worklist_rules.specs.declared.policy.Policy.{Policy}
use Rattle.worklist_rules.specs.Events.{HappenAll}
use Rattle.memory_model.specs.SeenOrders.{parts_order}
use Rattle.memory_model.specs.SeenOrderLaws.{parts_are_order}
use Rattle.transfer_rules.specs.PartMachineLaws.{is_part_machine}
use Rattle.abstract_step.specs.Steppers.{StepperParts, stepped_by}
use Rattle.report_soundness.specs.ReportTold.{four_order, four_recording, found_of, told_report}
use Rattle.worklist_rules.specs.EndedRuns.{Passes}
use Rattle.report_soundness.specs.Runs.{IsSound as IsSoundSystem}
use Rattle.report_soundness.specs.Exact.{IsExact, LoneRun}
use Rattle.report_soundness.specs.EventLaws.{sound_events}
use Rattle.report_soundness.specs.LoneLaws.{lone_report}
use Rattle.program_machines.specs.Starts.{AreLone, lone_start}
use Rattle.program_machines.specs.StartLaws.{alone, one_history}
use Rattle.program_analysis.specs.Answers.{Answer, Told, Unbounded}
use Rattle.program_analysis.specs.SoundLaws.{RunsSo, passes_runs, same_cost}
use Rattle.program_analysis.specs.Analyses.{first_pool, IsClosed}
use Rattle.program_analysis.specs.LoneLaws.{AreFit, along_fit}
use Rattle.program_analysis.proofs.LoneLemmas.{EndsIn, lone_followed, lone_run, lone_is_run, happened}
use Rattle.program_analysis.specs.ExactLaws.{IsToldExactly, LoneInputIsToldExactly}

-- ---- why

as_many : (nodes : List Node) (numbers : List ℕ) (run : List Node) → AreNumbersOf nodes numbers run
    → length numbers ≡ length run
as_many nodes [] [] all = refl
as_many nodes [] (node ∷ run) all = absurd all
as_many nodes (n ∷ numbers) [] all = absurd all
as_many nodes (n ∷ numbers) (node ∷ run) all = ap suc (as_many nodes numbers run all.1)

module _ (one_end : HasOneEnd) (parts : StepperParts) (o : Outlined) (policy : Policy) (turns : ℕ) (fit : AreFit parts o) (lone : AreLone parts.rows) (report : Reported) (closed : IsClosed parts o policy turns report) where
  happen : HappenAll stepped_by parts_order four_order four_recording (first_pool parts o) closed.events closed.pool
  happen = happened parts o fit lone policy turns closed.events closed.pool closed.explored

  is_sound : IsSoundSystem (stepped_by parts).system o (told_report o (found_of closed.pool))
  is_sound = sound_events stepped_by parts_order closed.events parts o closed.pool parts_are_order (λ other kept. is_part_machine other.checked other.graph other.rows kept) fit.kept fit.outline (along_fit parts o fit) happen closed.empty

  told_alone : (c : List RunEvent) (nodes : List ℕ) (fault : Option RunFault) → (stepped_by parts).system.starts c
      → Passes (stepped_by parts).system 0 c nodes fault
      → LoneRun (stepped_by parts).system o (told_report o (found_of closed.pool)) nodes
  told_alone c nodes fault starts passes =
      lone_report stepped_by parts_order closed.events parts o closed.pool parts_are_order (λ other kept. is_part_machine other.checked other.graph other.rows kept) fit.kept fit.outline (along_fit parts o fit) happen closed.empty
      c nodes fault starts (one_history (seen parts.checked) parts.rows lone) passes

  -- the run from the start of a point at node 0
  begins : (c : List RunEvent) → (stepped_by parts).system.starts c
      → moment_at parts.graph 0 c ≡ lone_start (seen parts.checked) parts.rows
  begins c starts =
      let expansion = fit.kept.machine.promises.points.expands (seen parts.checked) parts.graph fit.kept.machine.keeps fit.kept.machine.is in
      ap (λ (node : Node). At node c) expansion.first ∙ (alone (seen parts.checked) parts.rows lone).only (At first_node c) starts

  told_so : (nodes : List ℕ) → LoneRun (stepped_by parts).system o (told_report o (found_of closed.pool)) nodes
      → EndsIn parts turns → IsToldExactly parts o turns report
  told_so nodes one ended =
      let so : RunsSo (seen parts.checked) parts.graph 0 one.start nodes one.fault = passes_runs (seen parts.checked) parts.graph parts.rows one.passes in
      let runs : Runs (seen parts.checked) parts.graph.nodes (lone_start (seen parts.checked) parts.rows) nodes so.outcome =
      subst (λ (m : Moment). Runs (seen parts.checked) parts.graph.nodes m nodes so.outcome) (begins one.start one.starts) so.runs in
      let same = one_end (seen parts.checked) (lone_start (seen parts.checked) parts.rows) runs.run ended.runs.run so.outcome ended.outcome runs.ends ended.runs.ends in
      let mine : length nodes ≡ length runs.run = as_many parts.graph.nodes nodes runs.run runs.numbers in
      let its : length ended.nodes ≡ length ended.runs.run = as_many parts.graph.nodes ended.nodes ended.runs.run ended.runs.numbers in
      let lengths : length runs.run ≡ length ended.runs.run = ap length same.same_nodes in
      let most : length ended.nodes ≤ turns = ended.within in
      let exact : IsExact o report nodes one.fault = subst (λ (r : Reported). IsExact o r nodes one.fault) (sym closed.told) one.exact in
      record {
        nodes = nodes;
        outcome = so.outcome;
        runs = runs;
        within = omega (arith, mine, its, lengths, most);
        fault = one.fault;
        ends = so.is;
        exact = exact;
        cost = λ costs priced. exact.bound ∙ same_cost (seen parts.checked) parts.graph costs o nodes runs.run priced runs.numbers;
      }

  told_closed : EndsIn parts turns → IsToldExactly parts o turns report
  told_closed ended =
      let run = is_sound.ends (lone_run parts o fit lone) (lone_is_run parts o fit lone) in
      told_so run.trace (told_alone run.start run.trace run.fault run.starts run.passes) ended

-- an input alone is told exactly
pub told_exactly : HasOneEnd → LoneInputIsToldExactly
told_exactly one_end parts o policy turns (Told report) fit lone closed = told_closed one_end parts o policy turns fit lone report closed (lone_followed parts o policy turns (Told report) fit lone closed)
told_exactly one_end parts o policy turns (Unbounded scope) fit lone left = lone_followed parts o policy turns (Unbounded scope) fit lone left
