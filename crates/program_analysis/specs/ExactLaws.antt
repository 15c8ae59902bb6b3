-- An input alone is told exactly.
--   IsToldExactly parts o turns report   the one run ends within the turns, and the report tells its own numbers, its fault and its cost
--   IsOneAnswer parts o turns answer     so it is where a report was found; where none was, the run has more nodes than the turns
--   LoneInputIsToldExactly               the law
use Rattle.std.proofs.Common.{◌≡◌, ◌≤◌, ℕ, List, length, Option}
use Rattle.alf_ops.specs.declared.history.RunFault.{RunFault}
use Rattle.alf_check.specs.CheckedPrograms.{seen}
use Rattle.alf_runs.specs.Outcomes.{Outcome}
use Rattle.alf_runs.specs.Runs.{cost_of}
use Rattle.alf_interp.specs.Traces.{Runs}
use Rattle.cost_table.specs.CostTables.{CostTable}
use Rattle.domain_core.specs.Outlines.{Outlined}
use Rattle.flow_facts.specs.Reports.{Reported}
use Rattle.worklist_rules.specs.declared.policy.Policy.{Policy}
use Rattle.abstract_step.specs.Steppers.{StepperParts}
use Rattle.report_soundness.specs.Exact.{IsExact}
use Rattle.program_machines.specs.NodeCosts.{node_cost, HasCosts}
use Rattle.program_machines.specs.Starts.{AreLone, lone_start}
use Rattle.program_analysis.specs.Answers.{Answer, Told, Unbounded}
use Rattle.program_analysis.specs.SoundLaws.{IsOutcomeOf}
use Rattle.program_analysis.specs.Analyses.{IsClosed, IsFound}
use Rattle.program_analysis.specs.LoneLaws.{AreFit, GoesPast}

-- the one run ends within the turns, and the report tells its own numbers, its fault and its cost
pub record IsToldExactly (parts : StepperParts) (o : Outlined) (turns : ℕ) (report : Reported) : Type 0 where
  pub nodes : List ℕ
  pub outcome : Outcome
  pub runs : Runs (seen parts.checked) parts.graph.nodes (lone_start (seen parts.checked) parts.rows) nodes outcome
  pub within : length nodes ≤ turns
  pub fault : Option RunFault
  pub ends : IsOutcomeOf fault outcome
  pub exact : IsExact o report nodes fault
  pub cost : (costs : CostTable) → HasCosts (seen parts.checked) parts.graph costs o
      → report.count_bound ≡ cost_of (node_cost (seen parts.checked) costs) runs.run

-- so it is where a report was found; where none was, the run has more nodes than the turns
abbrev pub IsOneAnswer : StepperParts → Outlined → ℕ → Answer → Type 0
IsOneAnswer parts o turns (Told report) = IsToldExactly parts o turns report
IsOneAnswer parts o turns (Unbounded scope) = GoesPast parts o turns scope

abbrev pub LoneInputIsToldExactly : Type 0
LoneInputIsToldExactly = (parts : StepperParts) (o : Outlined) (policy : Policy) (turns : ℕ) (answer : Answer) → AreFit parts o → AreLone parts.rows → IsFound parts o policy turns answer → IsOneAnswer parts o turns answer
