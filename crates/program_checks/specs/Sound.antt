-- When a report that was checked is sound for a program, in the words of the program's runs.
--   IsSoundAcceptedFor program graph o costs report start   the run from the start ends; it meets each fact, its fault has an alarm, and it costs no
--       more than the count bound, and than the path bound, if the report has one
--   IsSoundAccepted program graph rows o costs report       so it is for each start with inputs inside the ranges
--   AcceptedAreSound             the law: a report against which nothing speaks is sound
use Rattle.std.specs.Prelude.{◌≤◌, ℕ, List, All, None, IfSome}
use Rattle.alf_check.specs.declared.rows.InputRow.{InputRow}
use Rattle.alf_check.specs.CheckedPrograms.{NumberedProgram, seen}
use Rattle.alf_runs.specs.Outcomes.{Outcome}
use Rattle.alf_runs.specs.Steps.{Moment}
use Rattle.alf_runs.specs.Starts.{IsStart}
use Rattle.alf_runs.specs.Runs.{cost_of}
use Rattle.alf_interp.specs.Traces.{Runs}
use Rattle.cost_table.specs.CostTables.{CostTable}
use Rattle.domain_core.specs.Outlines.{Outlined, Shape, shape_of}
use Rattle.flow_graph.specs.Numbering.{GraphParts}
use Rattle.flow_facts.specs.Facts.{Meets}
use Rattle.flow_facts.specs.Reports.{Reported}
use Rattle.memory_model.specs.SeenOrders.{parts_order}
use Rattle.abstract_step.specs.Steppers.{StepperParts, stepped_by}
use Rattle.program_machines.specs.NodeCosts.{node_cost, HasCosts}
use Rattle.program_analysis.specs.Sound.{HasAlarmForOutcome}
use Rattle.program_analysis.specs.LoneLaws.{AreFit}
use Rattle.report_objections.specs.Accepted.{IsScaled}
use Rattle.report_objections.specs.Checks.{IsChecked}

-- the run from the start ends; it meets each fact, its fault has an alarm, and it costs no more than each bound
pub record IsSoundAcceptedFor (program : NumberedProgram) (graph : GraphParts) (o : Shape) (costs : CostTable)
    (report : Reported) (start : Moment) : Type 0 where
  pub trace : List ℕ
  pub outcome : Outcome
  pub runs : Runs program graph.nodes start trace outcome
  pub facts : All (Meets o trace) report.facts
  pub alarm : HasAlarmForOutcome trace outcome report.facts
  pub count : cost_of (node_cost program costs) runs.run ≤ report.count_bound
  pub path : IfSome report.path_bound (λ b. cost_of (node_cost program costs) runs.run ≤ b.0)

-- so it is for each start with inputs inside the ranges of the rows
abbrev pub IsSoundAccepted : NumberedProgram → GraphParts → List InputRow → Shape → CostTable → Reported → Type 0
IsSoundAccepted program graph rows o costs report = (start : Moment) → IsStart program rows start → IsSoundAcceptedFor program graph o costs report start

-- ---- the lesser of both bounds

-- a report against which nothing speaks is sound for the program
abbrev pub AcceptedAreSound : Type 0
AcceptedAreSound = (parts : StepperParts) (o : Outlined) (costs : CostTable) (report : Reported) → AreFit parts o → HasCosts (seen parts.checked) parts.graph costs o → IsScaled report
    → IsChecked stepped_by parts_order parts o report None → IsSoundAccepted (seen parts.checked) parts.graph parts.rows (shape_of o) costs report
