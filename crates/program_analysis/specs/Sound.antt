-- When a report is sound for a program, in the words of the program's runs.
--   HasAlarmForOutcome trace outcome facts    where the run faults, the facts have an alarm for the fault at its last node
--   IsSoundByCountFor program graph o costs report start   the run from the start ends; it meets each fact, its fault has an alarm, and it costs no
--       more than the bound
--   IsSoundByCount program graph rows o costs report       so it is for each start with inputs inside the ranges
use Rattle.std.specs.Prelude.{◌≤◌, ⊤, ℕ, List, All}
use Rattle.alf_check.specs.CheckedPrograms.{NumberedProgram}
use Rattle.alf_check.specs.declared.rows.InputRow.{InputRow}
use Rattle.flow_graph.specs.Numbering.{GraphParts}
use Rattle.alf_runs.specs.Outcomes.{Outcome, Ended, Faulted, Lost}
use Rattle.alf_runs.specs.Steps.{Moment}
use Rattle.alf_runs.specs.Starts.{IsStart}
use Rattle.alf_runs.specs.Runs.{cost_of}
use Rattle.alf_interp.specs.Traces.{Runs}
use Rattle.cost_table.specs.CostTables.{CostTable}
use Rattle.domain_core.specs.Outlines.{Shape}
use Rattle.flow_facts.specs.declared.fact.Fact.{Fact}
use Rattle.flow_facts.specs.Facts.{Meets}
use Rattle.flow_facts.specs.Reports.{Reported}
use Rattle.report_soundness.specs.Runs.{HasAlarmOf}
use Rattle.program_machines.specs.NodeCosts.{node_cost}

-- where the run faults, the facts have an alarm for the fault at its last node
abbrev pub HasAlarmForOutcome : List ℕ → Outcome → List Fact → Type 0
HasAlarmForOutcome trace (Ended outputs) facts = ⊤
HasAlarmForOutcome trace (Faulted fault) facts = HasAlarmOf facts trace fault
HasAlarmForOutcome trace Lost facts = ⊥

-- the run from the start ends; it meets each fact, its fault has an alarm, and it costs no more than the bound
pub record IsSoundByCountFor (program : NumberedProgram) (graph : GraphParts) (o : Shape) (costs : CostTable)
    (report : Reported) (start : Moment) : Type 0 where
  pub trace : List ℕ
  pub outcome : Outcome
  pub runs : Runs program graph.nodes start trace outcome
  pub facts : All (Meets o trace) report.facts
  pub alarm : HasAlarmForOutcome trace outcome report.facts
  pub bound : cost_of (node_cost program costs) runs.run ≤ report.count_bound

-- so it is for each start with inputs inside the ranges of the rows
abbrev pub IsSoundByCount : NumberedProgram → GraphParts → List InputRow → Shape → CostTable → Reported → Type 0
IsSoundByCount program graph rows o costs report = (start : Moment) → IsStart program rows start → IsSoundByCountFor program graph o costs report start
