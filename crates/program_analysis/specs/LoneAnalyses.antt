-- What an analysis finds where there is one input alone.
--   LoneAnalysisIsExact   the answer tells exactly the one run
use Rattle.std.specs.Prelude.{ℕ, List}
use Rattle.alf_check.specs.declared.rows.InputRow.{InputRow}
use Rattle.alf_check.specs.CheckedPrograms.{NumberedProgram}
use Rattle.flow_graph.specs.Numbering.{GraphParts}
use Rattle.cost_table.specs.CostTables.{CostTable}
use Rattle.worklist_rules.specs.declared.policy.Policy.{Policy}
use Rattle.program_machines.specs.Starts.{AreLone}
use Rattle.program_analysis.specs.Answers.{Answer}
use Rattle.program_analysis.specs.ExactLaws.{IsOneAnswer}
use Rattle.program_analysis.specs.ProgramAnalyses.{IsAnalysis}

-- the answer tells exactly the one run, by the parts of which it was found
abbrev pub LoneAnalysisIsExact : Type 0
LoneAnalysisIsExact = (program : NumberedProgram) (graph : GraphParts) (rows : List InputRow) (costs : CostTable) (policy : Policy) (turns : ℕ) (answer : Answer) → AreLone rows
    → (h : IsAnalysis program graph rows costs policy turns answer) → IsOneAnswer (record { checked = h.checked; graph = graph; rows = rows }) h.outline turns answer
