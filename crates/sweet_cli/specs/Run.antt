-- `run FILE`: one run of the program, told.
--   IsLeft program start turns outcome   a run has more nodes than the turns, and this is the outcome
--   low_start program rows       the start whose inputs are the low ends of their ranges
--   IsRunText expanded rows costs turns text   the text tells the run from there, which has no more nodes than the turns
--   RunMeans program rows costs turns meaning     this text, or that the run has more nodes than the turns
--   running given                the order of work
--   TellsRun given files text    the promise: the text tells this run of the program that the file gives
--   run given                    the task
use Rattle.std.specs.Prelude.{◌≡◌, ◌≤◌, ℕ, List, length, map, Result, Ok, Err}
use Rattle.flow_base.specs.Outside.{Files}
use Rattle.alf_check.specs.declared.rows.InputRow.{InputRow}
use Rattle.alf_check.specs.CheckedPrograms.{NumberedProgram}
use Rattle.alf_check.specs.Inputs.{KeepInputs}
use Rattle.flow_graph.specs.Numbering.{GraphParts, IsGraph}
use Rattle.alf_runs.specs.Outcomes.{Outcome as RunOutcome}
use Rattle.alf_runs.specs.Steps.{Moment}
use Rattle.alf_runs.specs.Starts.{start, words_of}
use Rattle.alf_runs.specs.Runs.{cost_of}
use Rattle.alf_interp.specs.Traces.{Runs, IsPast, last_of}
use Rattle.cost_table.specs.CostTables.{CostTable}
use Rattle.program_machines.specs.NodeCosts.{node_cost}
use Rattle.command_plans.specs.Outcome.{Outcome, Unbounded}
use Rattle.command_plans.specs.Work.{Work, judged, done, ◌>>=◌}
use Rattle.program_files.specs.Expanding.{Expanded}
use Rattle.program_files.specs.Told.{IsToldProgram}
use Rattle.answer_texts.specs.RunText.{run_text}
use Rattle.command_files.specs.Scopes.{ScopedProgram, scoped_in}
use Rattle.command_files.specs.Tables.{tables_in, AreInputs, AreCosts}
use Rattle.sweet_cli.specs.Words.{RunWords}
use Rattle.sweet_cli.specs.LeftLines.{unbounded_line}
use Rattle.sweet_cli.specs.Task.{Task, names_read}

-- the run has more nodes than the turns, and the outcome tells the scope of the node that comes after so many
pub record IsLeft (program : ScopedProgram) (begin : Moment) (turns : ℕ) (outcome : Outcome) : Type 0 where
  pub node : ℕ
  pub past : IsPast program.expanded.program program.expanded.graph.nodes begin turns node
  pub line : outcome ≡ record { cause = Unbounded; text = unbounded_line program node }

-- the words of the low ends of the ranges
abbrev pub low_words : List InputRow → List ℕ
low_words rows = words_of rows (map (λ (row : InputRow). row.low) rows)

-- the start whose inputs are the low ends of their ranges
abbrev pub low_start : NumberedProgram → List InputRow → Moment
low_start program rows = start program rows (low_words rows)

-- the text tells the run from there, which has no more nodes than the turns
pub record IsRunText (expanded : Expanded) (rows : List InputRow) (costs : CostTable) (turns : ℕ)
    (text : List ℕ) : Type 0 where
  pub trace : List ℕ
  pub outcome : RunOutcome
  pub runs : Runs expanded.program expanded.graph.nodes (low_start expanded.program rows) trace outcome
  pub within : length trace ≤ turns
  pub shown : text ≡ run_text expanded (last_of trace) outcome (length trace) (cost_of (node_cost expanded.program costs) runs.run)

-- this text, or that the run has more nodes than the turns
abbrev pub RunMeans : ScopedProgram → List InputRow → CostTable → ℕ → Result (List ℕ) Outcome → Type 0
RunMeans program rows costs turns (Ok text) = IsRunText program.expanded rows costs turns text
RunMeans program rows costs turns (Err outcome) = IsLeft program (low_start program.expanded.program rows) turns outcome

unfoldable pub running : RunWords → Work (List ℕ)
running given = do
  program ← scoped_in given.program given.root
  tables ← tables_in program.expanded.program given.inputs given.costs
  text ← judged (RunMeans program tables.rows tables.costs given.turns)
  done text

-- the text tells this run of the program that the file gives, by the files that the words name; where the file is one
-- of C, its outcome is that of the unit from the cells that hold its inputs (`IsToldProgram`)
pub record TellsRun (given : RunWords) (files : Files) (text : List ℕ) : Type 0 where
  pub program : NumberedProgram
  pub graph : GraphParts
  pub rows : List InputRow
  pub costs : CostTable
  pub program_told : IsToldProgram given.program given.root files program
  pub graph_is : IsGraph program graph
  pub rows_told : AreInputs given.inputs files program rows
  pub rows_keep : KeepInputs program rows
  pub costs_told : AreCosts given.costs files program costs
  pub shown : IsRunText (record { program = program; graph = graph }) rows costs given.turns text

abbrev pub run : RunWords → Task
run given = record { work = running given; names = names_read given.program given.inputs given.costs; Promise = TellsRun given }
