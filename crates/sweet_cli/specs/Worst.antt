-- `worst FILE`: where the worst inputs of the program lie.
--   IsLeftInBox program rows costs policy turns pivots splits outcome   in some box places are left, and the outcome tells
--       the scope of the first such box
--   WorstMeans program rows costs policy turns pivots splits meaning    the boxes where splitting ends, or that places are
--       left
--   worsting given               the order of work
--   TellsWorst given files text  the promise: the text tells the boxes, and what they say of the program's runs
--   worst given                  the task
use Rattle.std.specs.Prelude.{◌≡◌, ℕ, List, Result, Ok, Err}
use Rattle.flow_base.specs.Outside.{Files}
use Rattle.alf_check.specs.declared.rows.InputRow.{InputRow}
use Rattle.alf_check.specs.CheckedPrograms.{NumberedProgram}
use Rattle.alf_check.specs.Inputs.{KeepInputs}
use Rattle.flow_graph.specs.Numbering.{GraphParts, IsGraph}
use Rattle.cost_table.specs.CostTables.{CostTable}
use Rattle.worklist_rules.specs.declared.policy.Policy.{Policy}
use Rattle.worst_inputs.specs.Searches.{Searched, IsSearched, IsLeftIn}
use Rattle.worst_inputs.specs.Promises.{Bounds}
use Rattle.program_bounder.specs.InputRows.{ranges_of}
use Rattle.program_bounder.specs.InputCosts.{RunsCost}
use Rattle.program_bounder.specs.PathBounds.{path_answers}
use Rattle.command_plans.specs.Outcome.{Outcome, Unbounded}
use Rattle.command_plans.specs.Work.{Work, judged, done, ◌>>=◌}
use Rattle.program_files.specs.Told.{IsToldProgram}
use Rattle.answer_texts.specs.ScopeLines.{left_line}
use Rattle.answer_texts.specs.WorstText.{worst_text}
use Rattle.command_files.specs.Scopes.{ScopedProgram, scoped_in}
use Rattle.command_files.specs.Tables.{tables_in, AreInputs, AreCosts}
use Rattle.sweet_cli.specs.Words.{WorstWords}
use Rattle.sweet_cli.specs.Analyse.{policy_of}
use Rattle.sweet_cli.specs.Task.{Task, names_read}

-- in some box places are left, and the outcome tells the scope of the first such box
pub record IsLeftInBox (program : ScopedProgram) (rows : List InputRow) (costs : CostTable) (policy : Policy)
    (turns pivots splits : ℕ) (outcome : Outcome) : Type 0 where
  pub scope : ℕ
  pub left : IsLeftIn (path_answers program.expanded.program program.expanded.graph rows costs policy turns pivots)
      (ranges_of rows) splits scope
  pub line : outcome ≡ record { cause = Unbounded; text = left_line program.expanded.graph program.scoped.scopes scope }

-- the boxes where splitting ends, each with the path bound of its ranges, or that places are left
abbrev pub WorstMeans : ScopedProgram → List InputRow → CostTable → Policy → ℕ → ℕ → ℕ → Result Searched Outcome
    → Type 0
WorstMeans program rows costs policy turns pivots splits (Ok found) =
    IsSearched (path_answers program.expanded.program program.expanded.graph rows costs policy turns pivots) (ranges_of rows)
    splits found
WorstMeans program rows costs policy turns pivots splits (Err outcome) =
    IsLeftInBox program rows costs policy turns pivots splits outcome

unfoldable pub worsting : WorstWords → Work (List ℕ)
worsting given = do
  program ← scoped_in given.program given.root
  tables ← tables_in program.expanded.program given.inputs given.costs
  found ← judged (WorstMeans program tables.rows tables.costs (policy_of given.merging) given.turns given.pivots
      given.splits)
  done (worst_text found)

-- the text tells boxes of inputs of the program that the file gives, by the files that the words name: those where
-- splitting ends, each with the path bound that `analyse` prints for its ranges. They cover the ranges; each run with
-- an input inside a box costs at most its bound; and where the last line says so, the greatest bound is the greatest
-- cost of a run with an input inside the ranges
pub record TellsWorst (given : WorstWords) (files : Files) (text : List ℕ) : Type 0 where
  pub program : NumberedProgram
  pub graph : GraphParts
  pub rows : List InputRow
  pub costs : CostTable
  pub found : Searched
  pub program_told : IsToldProgram given.program given.root files program
  pub graph_is : IsGraph program graph
  pub rows_told : AreInputs given.inputs files program rows
  pub rows_keep : KeepInputs program rows
  pub costs_told : AreCosts given.costs files program costs
  pub shown : text ≡ worst_text found
  pub searched : IsSearched (path_answers program graph rows costs (policy_of given.merging) given.turns given.pivots)
      (ranges_of rows) given.splits found
  pub bounds : Bounds (RunsCost program graph rows costs) (ranges_of rows) found

abbrev pub worst : WorstWords → Task
worst given = record { work = worsting given; names = names_read given.program given.inputs given.costs; Promise = TellsWorst given }
