-- What the check of a report of a program answers, whatever parts the code has it in.
--   IsCheckOf program graph rows costs report answer   so is the answer, by the checked parts of the program and the outline of its graph
--   HasOneCheck     a report has one such answer
use Rattle.std.proofs.Common.{◌≡◌, List, map, Option}
use Rattle.alf_check.specs.declared.rows.InputRow.{InputRow}
use Rattle.alf_check.specs.CheckedPrograms.{CheckedParts, NumberedProgram, seen}
use Rattle.alf_check.specs.Kept.{IsKept}
use Rattle.alf_check.specs.Inputs.{KeepInputs}
use Rattle.flow_graph.specs.Numbering.{GraphParts, IsGraph}
use Rattle.cost_table.specs.CostTables.{CostTable}
use Rattle.domain_core.specs.Outlines.{Outlined, IsOutline, shape_of}
use Rattle.domain_core.specs.OutlineOf.{IsOutlineOf}
use Rattle.scope_graph.specs.Placing.{plan_of}
use Rattle.flow_facts.specs.Reports.{Reported}
use Rattle.memory_model.specs.SeenOrders.{parts_order}
use Rattle.abstract_step.specs.Steppers.{stepped_by}
use Rattle.program_machines.specs.NodeCosts.{HasCosts}
use Rattle.program_analysis.specs.TwinMachines.{IsProgramOf}
use Rattle.report_objections.specs.declared.objection.Objection.{Objection}
use Rattle.report_objections.specs.Checks.{IsChecked}

-- so is the answer
pub record IsCheckOf (program : NumberedProgram) (graph : GraphParts) (rows : List InputRow) (costs : CostTable)
    (report : Reported) (answer : Option Objection) : Type 0 where
  pub checked : CheckedParts
  pub keeps : IsKept (seen checked)
  pub graph_is : IsGraph (seen checked) graph
  pub inputs : KeepInputs (seen checked) rows
  pub outline : Outlined
  pub program_is : IsProgramOf program checked
  pub outline_kept : IsOutline (shape_of outline)
  pub outline_is : IsOutlineOf (plan_of graph) (shape_of outline)
  pub names : map (λ row. row.name.items) outline.nodes ≡ graph.names
  pub costs_are : HasCosts program graph costs outline
  pub answer_is : IsChecked stepped_by parts_order (record { checked = checked; graph = graph; rows = rows }) outline report answer

-- a report has one such answer
abbrev pub HasOneCheck : Type 0
HasOneCheck = (program : NumberedProgram) (graph : GraphParts) (rows : List InputRow) (costs : CostTable) (report : Reported) (a b : Option Objection)
    → IsCheckOf program graph rows costs report a → IsCheckOf program graph rows costs report b → a ≡ b
