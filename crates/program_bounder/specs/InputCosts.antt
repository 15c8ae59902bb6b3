-- What a run of a program with an input costs.
--   RunsCost program graph rows costs input cost   the run with these numbers in the cells of the rows ends, and its
--       nodes cost so much in all
use Rattle.std.specs.Prelude.{◌≡◌, ℕ, ℤ, List}
use Rattle.alf_check.specs.declared.rows.InputRow.{InputRow}
use Rattle.alf_check.specs.CheckedPrograms.{NumberedProgram}
use Rattle.flow_graph.specs.Numbering.{GraphParts}
use Rattle.alf_runs.specs.Outcomes.{Outcome}
use Rattle.alf_runs.specs.Starts.{start, words_of}
use Rattle.alf_runs.specs.Runs.{cost_of}
use Rattle.alf_interp.specs.Traces.{Runs}
use Rattle.cost_table.specs.CostTables.{CostTable}
use Rattle.program_machines.specs.NodeCosts.{node_cost}

-- the run with these numbers in the cells of the rows ends, and its nodes cost so much in all
pub record RunsCost (program : NumberedProgram) (graph : GraphParts) (rows : List InputRow) (costs : CostTable)
    (input : List ℤ) (cost : ℕ) : Type 0 where
  pub trace : List ℕ
  pub outcome : Outcome
  pub runs : Runs program graph.nodes (start program rows (words_of rows input)) trace outcome
  pub is : cost ≡ cost_of (node_cost program costs) runs.run
