-- `replay FILE REPORT`: the one run from given values is held against a report.
--   IsReplayOf program graph rows costs report values told   so is told of the run, by the outline of the program's graph
--   IsObjected program rows costs report values outcome   something speaks against the report, and the outcome tells the first
--   ReplayMeans program rows costs report values meaning  the run's cost, or this
--   run_judged given program tables   the report and the values are read, and the run is held against the report
--   replaying given                 the order of work
--   HoldsOfRun program graph rows costs report values cost   the run meets the report, and costs so much
--   IsHeldTold given files program graph rows costs text   so it is of the report and the values of the told files, and the text tells
--                                   the cost
--   TellsReplay given files text    the promise: so it is of the program and the tables of the told files
--   replay given                    the task
use Rattle.std.specs.Prelude.{◌≡◌, ◌≤◌, ℕ, ℤ, List, length, map, All, Result, Ok, Err, IfSome, ◌++◌, ◌∷◌, option_to_list}
use Rattle.flow_base.specs.Outside.{Files}
use Rattle.alf_check.specs.declared.rows.InputRow.{InputRow}
use Rattle.alf_check.specs.CheckedPrograms.{NumberedProgram}
use Rattle.alf_check.specs.Inputs.{KeepInputs}
use Rattle.flow_graph.specs.Numbering.{GraphParts, IsGraph}
use Rattle.alf_runs.specs.Outcomes.{Outcome as RunOutcome}
use Rattle.alf_runs.specs.Runs.{cost_of}
use Rattle.alf_runs.specs.Starts.{AreWithin, start, words_of}
use Rattle.alf_interp.specs.Traces.{Runs}
use Rattle.cost_table.specs.CostTables.{CostTable}
use Rattle.domain_core.specs.Outlines.{Outlined, shape_of}
use Rattle.domain_core.specs.OutlineOf.{IsOutlineOf}
use Rattle.scope_graph.specs.Placing.{plan_of}
use Rattle.flow_facts.specs.Facts.{Meets}
use Rattle.flow_facts.specs.Reports.{Reported}
use Rattle.report_soundness.specs.Runs.{HasAlarm}
use Rattle.program_machines.specs.NodeCosts.{node_cost, HasCosts}
use Rattle.report_objections.specs.declared.objection.Objection.{Objection}
use Rattle.run_replays.specs.Replays.{Told, fault_of, IsReplayed}
use Rattle.command_plans.specs.Outcome.{Outcome, No}
use Rattle.command_plans.specs.Work.{Work, judged, ◌>>=◌}
use Rattle.program_files.specs.Told.{IsToldProgram}
use Rattle.answer_texts.specs.NoLines.{holds_line, objection_line}
use Rattle.command_files.specs.Values.{values_in, AreValues}
use Rattle.command_files.specs.Scopes.{ScopedProgram, scoped_in}
use Rattle.command_files.specs.Tables.{Tables, tables_in, AreInputs, AreCosts}
use Rattle.command_files.specs.ReportFiles.{report_in, IsToldReport}
use Rattle.sweet_cli.specs.Words.{ReplayWords}
use Rattle.sweet_cli.specs.Legends.{HasLegend}
use Rattle.sweet_cli.specs.Task.{Task, names_read}

-- so is told of the run, by the outline of the program's graph, with names and costs of its nodes
pub record IsReplayOf (program : NumberedProgram) (graph : GraphParts) (rows : List InputRow) (costs : CostTable)
    (report : Reported) (values : List ℤ) (told : Told) : Type 0 where
  pub outline : Outlined
  pub outline_is : IsOutlineOf (plan_of graph) (shape_of outline)
  pub names : map (λ row. row.name.items) outline.nodes ≡ graph.names
  pub costs_are : HasCosts program graph costs outline
  pub is : IsReplayed program graph.nodes rows outline report values told

-- something speaks against the report, and the outcome tells the first
pub record IsObjected (program : ScopedProgram) (rows : List InputRow) (costs : CostTable) (report : Reported)
    (values : List ℤ) (outcome : Outcome) : Type 0 where
  pub objection : Objection
  pub first : IsReplayOf program.expanded.program program.expanded.graph rows costs report values (Err objection)
  pub line : outcome ≡ record { cause = No; text = objection_line objection }

-- the run's cost is told
pub record IsHeld (program : ScopedProgram) (rows : List InputRow) (costs : CostTable) (report : Reported)
    (values : List ℤ) (text : List ℕ) : Type 0 where
  pub cost : ℕ
  pub holds : IsReplayOf program.expanded.program program.expanded.graph rows costs report values (Ok cost)
  pub line : text ≡ holds_line cost

-- its cost, or what speaks against the report
abbrev pub ReplayMeans : ScopedProgram → List InputRow → CostTable → Reported → List ℤ → Result (List ℕ) Outcome
    → Type 0
ReplayMeans program rows costs report values (Ok text) = IsHeld program rows costs report values text
ReplayMeans program rows costs report values (Err outcome) = IsObjected program rows costs report values outcome

-- the report and the values are read, and the run is held against the report
unfoldable pub run_judged : ReplayWords → ScopedProgram → Tables → Work (List ℕ)
run_judged given program tables = do
  report ← report_in given.report
  values ← values_in (length tables.rows) given.values
  judged (ReplayMeans program tables.rows tables.costs report values)

unfoldable pub replaying : ReplayWords → Work (List ℕ)
replaying given = do
  program ← scoped_in given.program given.root
  tables ← tables_in program.expanded.program given.inputs given.costs
  run_judged given program tables

-- ---- the promise

-- the one run from these values, each inside its range, meets each line of the report, has an alarm for its fault, and
-- costs so much, which is at most each bound; the report has the names, the costs and the scopes of the graph
pub record HoldsOfRun (program : NumberedProgram) (graph : GraphParts) (rows : List InputRow) (costs : CostTable)
    (report : Reported) (values : List ℤ) (cost : ℕ) : Type 0 where
  pub outline : Outlined
  pub outline_is : IsOutlineOf (plan_of graph) (shape_of outline)
  pub legend : HasLegend graph outline report
  pub inside : AreWithin rows values
  pub trace : List ℕ
  pub outcome : RunOutcome
  pub runs : Runs program graph.nodes (start program rows (words_of rows values)) trace outcome
  pub facts : All (Meets (shape_of outline) trace) report.facts
  pub alarm : HasAlarm report.facts trace (fault_of outcome)
  pub cost_is : cost ≡ cost_of (node_cost program costs) runs.run
  pub count : cost ≤ report.count_bound
  pub path : IfSome report.path_bound (λ b. cost ≤ b.0)

-- so it is of the report and the values of the told files, and the text tells the cost
pub record IsHeldTold (given : ReplayWords) (files : Files) (program : NumberedProgram) (graph : GraphParts)
    (rows : List InputRow)
    (costs : CostTable) (text : List ℕ) : Type 0 where
  pub report : Reported
  pub values : List ℤ
  pub cost : ℕ
  pub report_told : IsToldReport given.report files report
  pub values_told : AreValues given.values files (length rows) values
  pub holds : HoldsOfRun program graph rows costs report values cost
  pub shown : text ≡ holds_line cost

-- and so of the program and the tables of the told files
pub record TellsReplay (given : ReplayWords) (files : Files) (text : List ℕ) : Type 0 where
  pub program : NumberedProgram
  pub graph : GraphParts
  pub rows : List InputRow
  pub costs : CostTable
  pub program_told : IsToldProgram given.program given.root files program
  pub graph_is : IsGraph program graph
  pub rows_told : AreInputs given.inputs files program rows
  pub rows_keep : KeepInputs program rows
  pub costs_told : AreCosts given.costs files program costs
  pub held : IsHeldTold given files program graph rows costs text

abbrev pub replay : ReplayWords → Task
replay given = record { work = replaying given; names = names_read given.program given.inputs given.costs ++ (given.report ∷ option_to_list given.values); Promise = TellsReplay given }
