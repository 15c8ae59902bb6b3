-- When a report with both bounds is sound for a program, in the words of the program's runs.
--   IsSoundByBoundsFor program graph o costs report start   the run from the start ends; it meets each fact, its fault has an alarm, and it costs no
--       more than the count bound, and no more than the path bound
--   IsSoundByBounds program graph rows o costs report       so it is for each start with inputs inside the ranges
--   IsRightFor parts o report       the report is sound for the program of the parts; its path bound is at most its count bound, and with `Least` the
--       greatest worth of a point that meets its rows, rounded down
--   FoundReportsAreRight            the law
--   ClosedExplorationsHaveTotals    the law of explorations that leave no place: of each node that was stepped they collected some total
--   LoneBoundsAgree                 the law of rows that give one input alone: both bounds are one number
use Rattle.std.specs.Prelude.{◌≡◌, ◌≤◌, ℕ, List, All}
use Rattle.alf_check.specs.declared.rows.InputRow.{InputRow}
use Rattle.alf_check.specs.CheckedPrograms.{NumberedProgram, seen}
use Rattle.alf_check.specs.Inputs.{KeepInputs}
use Rattle.alf_check.specs.Kept.{IsKept}
use Rattle.flow_graph.specs.Numbering.{GraphParts, IsGraph}
use Rattle.alf_runs.specs.Outcomes.{Outcome}
use Rattle.alf_runs.specs.Steps.{Moment}
use Rattle.alf_runs.specs.Starts.{IsStart}
use Rattle.alf_runs.specs.Runs.{cost_of}
use Rattle.alf_interp.specs.Traces.{Runs}
use Rattle.cost_table.specs.CostTables.{CostTable}
use Rattle.domain_core.specs.Outlines.{Outlined, Shape, IsOutline, shape_of}
use Rattle.domain_core.specs.OutlineOf.{IsOutlineOf}
use Rattle.scope_graph.specs.Placing.{plan_of}
use Rattle.flow_facts.specs.Facts.{Meets}
use Rattle.flow_facts.specs.Reports.{Reported}
use Rattle.worklist_rules.specs.declared.policy.Policy.{Policy}
use Rattle.abstract_step.specs.Steppers.{StepperParts}
use Rattle.program_machines.specs.NodeCosts.{node_cost, HasCosts}
use Rattle.program_machines.specs.Starts.{AreLone}
use Rattle.report_soundness.specs.Bounded.{HasPathBound, IsWithinCount, IsLeastOf}
use Rattle.report_soundness.specs.ReportTold.{found_of}
use Rattle.report_soundness.specs.BoundTold.{HaveTotals}
use Rattle.program_analysis.specs.Sound.{HasAlarmForOutcome}
use Rattle.program_analysis.specs.Analyses.{IsClosed}
use Rattle.program_analysis.specs.BoundedAnalyses.{IsClosedWith, IsBoundedReport}

-- the run from the start ends; it meets each fact, its fault has an alarm, and it costs no more than each bound
pub record IsSoundByBoundsFor (program : NumberedProgram) (graph : GraphParts) (o : Shape) (costs : CostTable)
    (report : Reported) (start : Moment) : Type 0 where
  pub trace : List ℕ
  pub outcome : Outcome
  pub runs : Runs program graph.nodes start trace outcome
  pub facts : All (Meets o trace) report.facts
  pub alarm : HasAlarmForOutcome trace outcome report.facts
  pub count : cost_of (node_cost program costs) runs.run ≤ report.count_bound
  pub path : HasPathBound (λ b. cost_of (node_cost program costs) runs.run ≤ b.0) report

-- so it is for each start with inputs inside the ranges of the rows
abbrev pub IsSoundByBounds : NumberedProgram → GraphParts → List InputRow → Shape → CostTable → Reported → Type 0
IsSoundByBounds program graph rows o costs report = (start : Moment) → IsStart program rows start → IsSoundByBoundsFor program graph o costs report start

-- the report is sound for the program of the parts, by the costs that the outline has; its path bound is at most its
-- count bound, and with `Least` the greatest worth of a point that meets its rows, rounded down
pub record IsRightFor (parts : StepperParts) (o : Outlined) (report : Reported) : Type 0 where
  pub sound : (costs : CostTable) → HasCosts (seen parts.checked) parts.graph costs o
      → IsSoundByBounds (seen parts.checked) parts.graph parts.rows (shape_of o) costs report
  pub within : IsWithinCount report
  pub least : IsLeastOf o report

-- each report that is found is so
abbrev pub FoundReportsAreRight : Type 0
FoundReportsAreRight = (parts : StepperParts) (o : Outlined) (policy : Policy) (turns pivots : ℕ) (report : Reported) → IsKept (seen parts.checked) → IsGraph (seen parts.checked) parts.graph
    → KeepInputs (seen parts.checked) parts.rows → IsOutline (shape_of o) → IsOutlineOf (plan_of parts.graph) (shape_of o) → IsClosedWith parts o policy turns pivots report → IsRightFor parts o report

-- an exploration that leaves no place collected some total of each node that it stepped
abbrev pub ClosedExplorationsHaveTotals : Type 0
ClosedExplorationsHaveTotals = (parts : StepperParts) (o : Outlined) (policy : Policy) (turns : ℕ) (report : Reported) → IsKept (seen parts.checked) → IsGraph (seen parts.checked) parts.graph
    → KeepInputs (seen parts.checked) parts.rows → IsOutline (shape_of o) → IsOutlineOf (plan_of parts.graph) (shape_of o) → (closed : IsClosed parts o policy turns report)
    → HaveTotals o (found_of closed.pool)

-- where each range has one number, the path bound of a report is its count bound
abbrev pub LoneBoundsAgree : Type 0
LoneBoundsAgree = (program : NumberedProgram) (graph : GraphParts) (rows : List InputRow) (costs : CostTable) (policy : Policy) (turns pivots : ℕ) (report : Reported) → AreLone rows
    → IsBoundedReport program graph rows costs policy turns pivots report → HasPathBound (λ b. b.0 ≡ report.count_bound) report
