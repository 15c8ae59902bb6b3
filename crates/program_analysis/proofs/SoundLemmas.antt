-- On the way to the laws of sound.
--   sound_of         why
use Rattle.std.proofs.Common.{◌≡◌, ◌≤◌, ℕ, List, Option, None, Some, sym, subst}
use Rattle.alf_ops.specs.declared.history.RunFault.{RunFault}
use Rattle.alf_check.specs.declared.rows.InputRow.{InputRow}
use Rattle.alf_check.specs.CheckedPrograms.{NumberedProgram, seen}
use Rattle.alf_check.specs.Kept.{IsKept}
use Rattle.flow_graph.specs.Numbering.{GraphParts, IsGraph}
use Rattle.alf_runs.specs.Outcomes.{Outcome, Ended, Faulted}
use Rattle.alf_runs.specs.Steps.{Moment, Over}
use Rattle.alf_runs.specs.Runs.{trace}
use Rattle.alf_interp.specs.Traces.{Runs}
use Rattle.cost_table.specs.CostTables.{CostTable}
use Rattle.domain_core.specs.Outlines.{Outlined, shape_of}
use Rattle.flow_facts.specs.declared.fact.Fact.{Fact}
use Rattle.flow_facts.specs.Reports.{Reported}
use Rattle.transfer_rules.specs.Points.{run_system, moment_at, points}
use Rattle.transfer_rules.specs.PointLaws.{Promises}
use Rattle.report_soundness.specs.Runs.{HasAlarm as HasFaultAlarm, IsSound as IsSoundSystem}
use Rattle.program_machines.specs.NodeCosts.{HasCosts}
use Rattle.program_machines.specs.ProgramRunLaws.{program_run, stands_there}
use Rattle.program_analysis.specs.Sound.{HasAlarmForOutcome, IsSoundByCount}
use Rattle.program_analysis.specs.SoundLaws.{IsOutcomeOf, passes_runs, same_cost, SoundForSystemIsSound}

-- ---- soundness

alarm_of : (facts : List Fact) (trace : List ℕ) (fault : Option RunFault) (outcome : Outcome)
    → IsOutcomeOf fault outcome → HasFaultAlarm facts trace fault → HasAlarmForOutcome trace outcome facts
alarm_of facts trace None outcome (outputs, is) alarm = subst (λ (end : Outcome). HasAlarmForOutcome trace end facts) (sym is) tt
alarm_of facts trace (Some fault) outcome is alarm = subst (λ (end : Outcome). HasAlarmForOutcome trace end facts) (sym is) alarm

-- why the report is sound
pub sound_of : Promises → (program : NumberedProgram) (graph : GraphParts) (rows : List InputRow) (o : Outlined) (costs : CostTable) (report : Reported)
    → IsKept program → IsGraph program graph → HasCosts program graph costs o → IsSoundSystem (run_system program graph rows) o report
    → IsSoundByCount program graph rows (shape_of o) costs report
sound_of promises program graph rows o costs report keeps is priced sound start from =
    let run = sound.ends (points program graph start) (program_run promises program graph keeps is rows start from) in
    let right = sound.right run.start run.trace run.fault run.starts run.passes in
    let so = passes_runs program graph rows run.passes in
    let begins : start ≡ moment_at graph 0 run.start = stands_there promises program graph keeps is rows start from 0 0 run.start run.here in
    let runs : Runs program graph.nodes start run.trace so.outcome = subst (λ (m : Moment). Runs program graph.nodes m run.trace so.outcome) (sym begins) so.runs in
    record {
      trace = run.trace;
      outcome = so.outcome;
      runs = runs;
      facts = right.facts;
      alarm = alarm_of report.facts run.trace run.fault so.outcome so.is right.alarm;
      bound = subst (λ (cost : ℕ). cost ≤ report.count_bound) (same_cost program graph costs o run.trace runs.run priced runs.numbers) right.bound;
    }

pub sound_for : Promises → SoundForSystemIsSound
sound_for promises parts o costs report keeps is priced sound = sound_of promises (seen parts.checked) parts.graph parts.rows o costs report keeps is priced sound
