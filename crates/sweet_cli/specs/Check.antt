-- `check FILE REPORT`: a report of unknown origin is accepted, or the first thing that speaks against it is told.
--   IsRefused program rows costs report outcome   something speaks against the report, and the outcome tells the first
--   AcceptMeans program rows costs report meaning  nothing speaks against the report, or this does
--   report_judged file program tables   the report is read and judged
--   checking given                the order of work
--   IsAcceptedOf program graph rows costs report   the report is sound for the program, with the names, the costs and the scopes of its graph
--   IsSoundTold file files program graph rows costs   the told file spells a report that is so
--   IsAccepted given files text   the promise: the report of the file is sound for the program that the file gives
--   check given                   the task
use Rattle.std.specs.Prelude.{◌≡◌, List, Result, Ok, Err, None, Some, ℕ, codes, ◌++◌, ◌∷◌, []}
use Rattle.flow_base.specs.Outside.{Files}
use Rattle.alf_check.specs.declared.rows.InputRow.{InputRow}
use Rattle.alf_check.specs.CheckedPrograms.{NumberedProgram}
use Rattle.alf_check.specs.Inputs.{KeepInputs}
use Rattle.flow_graph.specs.Numbering.{GraphParts, IsGraph}
use Rattle.cost_table.specs.CostTables.{CostTable}
use Rattle.domain_core.specs.Outlines.{Outlined, shape_of}
use Rattle.domain_core.specs.OutlineOf.{IsOutlineOf}
use Rattle.scope_graph.specs.Placing.{plan_of}
use Rattle.flow_facts.specs.Reports.{Reported}
use Rattle.program_machines.specs.NodeCosts.{HasCosts}
use Rattle.report_objections.specs.declared.objection.Objection.{Objection}
use Rattle.program_checks.specs.Checking.{IsCheckOf}
use Rattle.program_checks.specs.Sound.{IsSoundAccepted}
use Rattle.command_plans.specs.Outcome.{Outcome, No}
use Rattle.command_plans.specs.Work.{Work, judged, ◌>>=◌}
use Rattle.program_files.specs.Told.{IsToldProgram}
use Rattle.answer_texts.specs.NoLines.{objection_line}
use Rattle.command_files.specs.Scopes.{ScopedProgram, scoped_in}
use Rattle.command_files.specs.Tables.{Tables, tables_in, AreInputs, AreCosts}
use Rattle.command_files.specs.ReportFiles.{report_in, IsToldReport}
use Rattle.sweet_cli.specs.Words.{CheckWords}
use Rattle.sweet_cli.specs.Legends.{HasLegend}
use Rattle.sweet_cli.specs.Task.{Task, names_read}

-- the text of a report that is accepted
abbrev pub accepted : List ℕ
accepted = codes "accepted\n"

-- something speaks against the report, and the outcome tells the first
pub record IsRefused (program : ScopedProgram) (rows : List InputRow) (costs : CostTable) (report : Reported)
    (outcome : Outcome) : Type 0 where
  pub objection : Objection
  pub first : IsCheckOf program.expanded.program program.expanded.graph rows costs report (Some objection)
  pub line : outcome ≡ record { cause = No; text = objection_line objection }

-- nothing speaks against the report, or this does
abbrev pub AcceptMeans : ScopedProgram → List InputRow → CostTable → Reported → Result (List ℕ) Outcome → Type 0
AcceptMeans program rows costs report (Ok text) =
    IsCheckOf program.expanded.program program.expanded.graph rows costs report None × (text ≡ accepted)
AcceptMeans program rows costs report (Err outcome) = IsRefused program rows costs report outcome

-- the report is read and judged
unfoldable pub report_judged : List ℕ → ScopedProgram → Tables → Work (List ℕ)
report_judged file program tables = do
  report ← report_in file
  judged (AcceptMeans program tables.rows tables.costs report)

unfoldable pub checking : CheckWords → Work (List ℕ)
checking given = do
  program ← scoped_in given.program given.root
  tables ← tables_in program.expanded.program given.inputs given.costs
  report_judged given.report program tables

-- the report is sound for the program, with the names, the costs and the scopes of its graph
pub record IsAcceptedOf (program : NumberedProgram) (graph : GraphParts) (rows : List InputRow) (costs : CostTable)
    (report : Reported) : Type 0 where
  pub outline : Outlined
  pub outline_is : IsOutlineOf (plan_of graph) (shape_of outline)
  pub legend : HasLegend graph outline report
  pub costs_are : HasCosts program graph costs outline
  pub sound : IsSoundAccepted program graph rows (shape_of outline) costs report

-- the told file spells a report that is so
pub record IsSoundTold (file : List ℕ) (files : Files) (program : NumberedProgram) (graph : GraphParts)
    (rows : List InputRow) (costs : CostTable) : Type 0 where
  pub report : Reported
  pub told : IsToldReport file files report
  pub sound : IsAcceptedOf program graph rows costs report

-- the report that the told file spells is sound for the program that the told file gives, with inputs and costs as the
-- told files say: every run from inputs inside the ranges ends, meets each fact, has an alarm for its fault, and costs
-- no more than the count bound, and than the path bound, where the report has one; where the file is one of C, each
-- run's outcome is that of the unit from the cells that hold the run's own inputs (`IsToldProgram`)
pub record IsAccepted (given : CheckWords) (files : Files) (text : List ℕ) : Type 0 where
  pub program : NumberedProgram
  pub graph : GraphParts
  pub rows : List InputRow
  pub costs : CostTable
  pub program_told : IsToldProgram given.program given.root files program
  pub graph_is : IsGraph program graph
  pub rows_told : AreInputs given.inputs files program rows
  pub rows_keep : KeepInputs program rows
  pub costs_told : AreCosts given.costs files program costs
  pub shown : text ≡ accepted
  pub sound : IsSoundTold given.report files program graph rows costs

abbrev pub check : CheckWords → Task
check given = record { work = checking given; names = names_read given.program given.inputs given.costs ++ (given.report ∷ []); Promise = IsAccepted given }
