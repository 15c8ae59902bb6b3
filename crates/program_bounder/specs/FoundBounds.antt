-- Path bounds of reports that are found.
--   BoundedRun program graph rows costs report input   the run with the input ends, and costs at most the report's path bound
--   LoneCost program graph rows costs report           the run with the one number of each range costs the report's path bound
use Rattle.std.proofs.Common.{◌≡◌, ◌≤◌, ℕ, ℤ, List}
use Rattle.alf_check.specs.declared.rows.InputRow.{InputRow}
use Rattle.alf_check.specs.CheckedPrograms.{CheckedParts, NumberedProgram}
use Rattle.flow_graph.specs.Numbering.{GraphParts}
use Rattle.alf_runs.specs.Outcomes.{Outcome}
use Rattle.alf_runs.specs.Starts.{start, words_of}
use Rattle.alf_runs.specs.Runs.{cost_of}
use Rattle.alf_interp.specs.Traces.{Runs}
use Rattle.cost_table.specs.CostTables.{CostTable}
use Rattle.flow_facts.specs.Reports.{Reported}
use Rattle.worklist_rules.specs.declared.policy.Policy.{Policy}
use Rattle.report_soundness.specs.Bounded.{HasPathBound}
use Rattle.program_machines.specs.NodeCosts.{node_cost}
use Rattle.program_machines.specs.Starts.{lone_start}
use Rattle.program_analysis.specs.TwinMachines.{IsProgramOf}
use Rattle.program_analysis.specs.BoundedAnalyses.{IsBoundedReport}

-- the run with the input ends, and costs at most the report's path bound
pub record BoundedRun (program : NumberedProgram) (graph : GraphParts) (rows : List InputRow) (costs : CostTable)
    (report : Reported) (input : List ℤ) : Type 0 where
  pub trace : List ℕ
  pub outcome : Outcome
  pub runs : Runs program graph.nodes (start program rows (words_of rows input)) trace outcome
  pub path : HasPathBound (λ b. cost_of (node_cost program costs) runs.run ≤ b.0) report

-- the run with the one number of each range costs the report's path bound
pub record LoneCost (program : NumberedProgram) (graph : GraphParts) (rows : List InputRow) (costs : CostTable)
    (report : Reported) : Type 0 where
  pub trace : List ℕ
  pub outcome : Outcome
  pub runs : Runs program graph.nodes (lone_start program rows) trace outcome
  pub path : HasPathBound (λ b. b.0 ≡ cost_of (node_cost program costs) runs.run) report
