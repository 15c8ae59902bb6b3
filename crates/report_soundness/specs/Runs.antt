-- Reports that are sound for the runs of a system that end.
--   HasAlarm facts trace fault   the fault, if any, has an alarm at the last node of the trace
--   IsRightOf o report trace fault   such a run meets each fact, its fault has an alarm, and it costs no more than the count bound
--   IsSound system o report   each run ends, and so it is for each run that ends
use Rattle.std.specs.Prelude.{◌≡◌, ◌≤◌, ℕ, List, [], ◌∷◌, ◌++◌, Option, Some, None, All, Contains}
use Rattle.alf_ops.specs.declared.history.RunFault.{RunFault}
use Rattle.domain_core.specs.Outlines.{Outlined, shape_of}
use Rattle.domain_core.specs.Machines.{System}
use Rattle.flow_facts.specs.declared.fact.Fact.{Fact}
use Rattle.flow_facts.specs.declared.fact.Fact.TheVariants.{Alarm}
use Rattle.flow_facts.specs.Facts.{Meets}
use Rattle.flow_facts.specs.Reports.{Reported}
use Rattle.ipet_rows.specs.Uses.{run_cost}
use Rattle.domain_core.specs.SystemRuns.{IsRun}
use Rattle.worklist_rules.specs.EndedRuns.{Passes, RunEnds}
use Rattle.report_soundness.specs.ReportTold.{costs_of}

-- the facts have an alarm for the fault at the last node of the trace
pub record HasAlarmOf (facts : List Fact) (trace : List ℕ) (fault : RunFault) : Type 0 where
  pub before : List ℕ
  pub node : ℕ
  pub last : trace ≡ before ++ node ∷ []
  pub among : Contains facts (Alarm node fault)

abbrev pub HasAlarm : List Fact → List ℕ → Option RunFault → Type 0
HasAlarm facts trace None = Unit {0}
HasAlarm facts trace (Some fault) = HasAlarmOf facts trace fault

-- such a run meets each fact, its fault has an alarm, and it costs no more than the count bound
pub record IsRightOf (o : Outlined) (report : Reported) (trace : List ℕ) (fault : Option RunFault) : Type 0 where
  pub facts : All (Meets (shape_of o) trace) report.facts
  pub alarm : HasAlarm report.facts trace fault
  pub bound : run_cost (costs_of o) trace ≤ report.count_bound

-- each run ends, and so it is for each run that ends
pub record IsSound {C : Type 0} (system : System C) (o : Outlined) (report : Reported) : Type 0 where
  pub ends : (run : ℕ → Option (ℕ × C)) → IsRun system run → RunEnds system run
  pub right : (c : C) (trace : List ℕ) (fault : Option RunFault) → system.starts c → Passes system 0 c trace fault
      → IsRightOf o report trace fault
