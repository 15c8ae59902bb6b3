-- Path bounds of areas of a program's inputs.
--   HasPathBoundAt program graph rows costs policy turns pivots bound   an analysis of the program with these rows finds a
--       report with this path bound
--   path_answers program graph rows costs policy turns pivots   what is answered of an area: the path bound of the analysis
--       of the rows with its ranges, or the scope in which places are left
use Rattle.std.specs.Prelude.{◌≡◌, ℕ, List}
use Rattle.alf_check.specs.declared.rows.InputRow.{InputRow}
use Rattle.alf_check.specs.CheckedPrograms.{NumberedProgram}
use Rattle.flow_graph.specs.Numbering.{GraphParts}
use Rattle.cost_table.specs.CostTables.{CostTable}
use Rattle.flow_facts.specs.Reports.{Reported}
use Rattle.worklist_rules.specs.declared.policy.Policy.{Policy}
use Rattle.report_soundness.specs.Bounded.{HasPathBound}
use Rattle.program_analysis.specs.Answers.{Unbounded}
use Rattle.program_analysis.specs.BoundedAnalyses.{IsBoundedReport, IsBoundedAnalysis}
use Rattle.worst_inputs.specs.declared.bounder.Bounded.TheVariants.{At, Left}
use Rattle.worst_inputs.specs.Boxes.{Answers}
use Rattle.program_bounder.specs.InputRows.{with_ranges}

-- an analysis of the program with these rows finds a report with this path bound
pub record HasPathBoundAt (program : NumberedProgram) (graph : GraphParts) (rows : List InputRow) (costs : CostTable)
    (policy : Policy) (turns pivots bound : ℕ) : Type 0 where
  pub report : Reported
  pub found : IsBoundedReport program graph rows costs policy turns pivots report
  pub is : HasPathBound (λ b. b.0 ≡ bound) report

-- what is answered of an area: the path bound of the rows with its ranges, or the scope in which places are left
abbrev pub path_answers : NumberedProgram → GraphParts → List InputRow → CostTable → Policy → ℕ → ℕ → Answers
path_answers program graph rows costs policy turns pivots area (At bound) =
    HasPathBoundAt program graph (with_ranges rows area) costs policy turns pivots bound
path_answers program graph rows costs policy turns pivots area (Left scope) =
    IsBoundedAnalysis program graph (with_ranges rows area) costs policy turns pivots (Unbounded scope)
