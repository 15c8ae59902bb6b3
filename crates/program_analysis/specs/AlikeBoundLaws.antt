-- Laws of alike bounds.
--   bounded_of        what is printed is found but for its certificate
use Rattle.std.proofs.Common.{ℕ, Bool, List}
use Rattle.alf_check.specs.declared.rows.InputRow.{InputRow}
use Rattle.alf_check.specs.CheckedPrograms.{NumberedProgram}
use Rattle.flow_graph.specs.Numbering.{GraphParts}
use Rattle.cost_table.specs.CostTables.{CostTable}
use Rattle.flow_facts.specs.Reports.{Reported}
use Rattle.worklist_rules.specs.declared.policy.Policy.{Policy}
use Rattle.program_analysis.specs.BoundedAnalyses.{IsBoundedReport, IsPrintedReport}

-- ---- one answer

-- what is printed is found but for its certificate
pub bounded_of : (certify : Bool) (program : NumberedProgram) (graph : GraphParts) (rows : List InputRow) (costs : CostTable) (policy : Policy) (turns pivots : ℕ) (report : Reported)
    (h : IsPrintedReport certify program graph rows costs policy turns pivots report) → IsBoundedReport program graph rows costs policy turns pivots h.bare
bounded_of certify program graph rows costs policy turns pivots report h = record { given = h.given; analysis = h.analysis; bounded = h.bound.bounded }
