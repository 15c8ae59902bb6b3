-- Laws of answers.
--   IsReportOf given files before text   the text is that of the report that is found of the program, the inputs and the costs of the files
--   ReportsStay     a report is printed with each number of turns that is not below the steps of its exploration
--   check_words given report   the words of `check` on this report, with the same program, root, inputs and costs
--   HoldSame given files later   the later files hold the same under the names of the program, the inputs and the costs
--   EndsAccepted words files   the work of the words ends with `accepted`, and with nothing else but a failed read
--   OwnReportsAreAccepted   what `analyse --cert` printed is accepted by `check` of the same files
--   HaveOneAnswer   told files have one answer to the words, and one list of names read, but for failed reads
--   MigratedReportsSayTheSame   a report and the same in the second form are sound alike, and `check` answers both alike
--   RunsOfCHaveTheirOwnOutcome   each run of what a told file of C is lowered to has the outcome of the unit from the cells that hold its own numbers
use Rattle.std.specs.Prelude.{◌≡◌, ◌≤◌, ◌↔◌, ℕ, ℤ, true, List, length, Option, None, Some, IfSome}
use Rattle.flow_base.specs.Outside.{Files}
use Rattle.flow_facts.specs.Reports.{Reported}
use Rattle.fact_words.specs.Canonical.{report_text}
use Rattle.alf_check.specs.declared.rows.InputRow.{InputRow}
use Rattle.alf_check.specs.CheckedPrograms.{NumberedProgram}
use Rattle.alf_runs.specs.Starts.{AreWithin}
use Rattle.cost_table.specs.CostTables.{CostTable}
use Rattle.flow_graph.specs.Numbering.{GraphParts}
use Rattle.c_lower.specs.Outcomes.{HasUnitsOutcomeFrom}
use Rattle.program_analysis.specs.BoundedAnalyses.{IsPrintedReport}
use Rattle.program_checks.specs.Checking.{IsCheckOf}
use Rattle.report_forms.specs.Migrating.{migrated}
use Rattle.report_objections.specs.declared.objection.Objection.{Objection}
use Rattle.sweet_words.specs.Files.{file_name}
use Rattle.command_plans.specs.Log.{Log}
use Rattle.command_plans.specs.Outcome.{Ending, Finished, ending_unread}
use Rattle.command_plans.specs.Work.{EndsSo, HasOneEnding}
use Rattle.program_files.specs.Told.{IsProgramOfUnit}
use Rattle.command_files.specs.Scopes.{ScopedProgram, scoped_in}
use Rattle.command_files.specs.Tables.{Tables, tables_in, AreInputs}
use Rattle.command_files.specs.ReportFiles.{most_report_bytes}
use Rattle.sweet_cli.specs.Words.{AnalyseWords, CheckWords, Analyse, Check, command_of}
use Rattle.sweet_cli.specs.Analyse.{analysing, policy_of}
use Rattle.sweet_cli.specs.Check.{IsAcceptedOf, accepted}
use Rattle.sweet_cli.specs.Table.{task_of}

-- whatever was read before, told files have one answer to the words, but for a line that gives one example of several;
-- and the same names are read, but for failed reads
abbrev pub HaveOneAnswer : Type 0
HaveOneAnswer = (words : List (List ℕ)) (files : Files) → HasOneEnding (task_of words).work files

-- the words with another number of turns
abbrev pub with_turns : AnalyseWords → ℕ → AnalyseWords
with_turns given turns = record given { turns = turns }

-- the text is that of the report that is found of what the files tell, in the given turns
pub record IsReportOf (given : AnalyseWords) (files : Files) (before : Log) (text : List ℕ) : Type 0 where
  pub program : ScopedProgram
  pub after_program : Log
  pub program_told : (scoped_in given.program given.root).steps.Gives (Some files) before program after_program
  pub tables : Tables
  pub after_tables : Log
  pub tables_told : (tables_in program.expanded.program given.inputs given.costs).steps.Gives (Some files) after_program tables after_tables
  pub report : Reported
  pub found : IsPrintedReport given.certified program.expanded.program program.expanded.graph tables.rows tables.costs (policy_of given.merging) given.turns given.pivots report
  pub text_is : text ≡ report_text report

-- a printed report is found in no fewer turns than its exploration makes steps, and is printed with each number of
-- turns that is not below them: the turns are no part of what it tells
abbrev pub ReportsStay : Type 0
ReportsStay = (given : AnalyseWords) (files : Files) (before after : Log) (text : List ℕ) → (analysing given).steps.Gives (Some files) before text after
    → (printed : IsReportOf given files before text) × (printed.found.analysis.found.pool.steps ≤ given.turns)
    × ((more : ℕ) → printed.found.analysis.found.pool.steps ≤ more → (analysing (with_turns given more)).steps.Gives (Some files) before text after)

-- the words of `check` on this report, with the same program, root, inputs and costs
abbrev pub check_words : AnalyseWords → List ℕ → CheckWords
check_words given report = record { program = given.program; report = report; root = given.root; inputs = given.inputs; costs = given.costs }

-- the later files hold the same under the names of the program, the inputs and the costs
pub record HoldSame (given : AnalyseWords) (files later : Files) : Type 0 where
  pub program : later (file_name given.program) ≡ files (file_name given.program)
  pub inputs : IfSome given.inputs (λ file. later file ≡ files file)
  pub costs : IfSome given.costs (λ file. later file ≡ files file)

-- whatever was read before, the work of the words ends with `accepted` over these files, and with nothing else that
-- tells no failed read
pub record EndsAccepted (words : List (List ℕ)) (files : Files) : Type 0 where
  pub ends : (before : Log) → (after : Log) × EndsSo (task_of words).work (Some files) before (Finished accepted) after
  pub only : (before after : Log) (ending : Ending) → ending_unread ending ≡ None
      → EndsSo (task_of words).work (Some files) before ending after
      → ending ≡ Finished accepted

-- where the words of `analyse --cert` printed a text of told files, and later files hold it under some name, and the
-- same under the names of the program, the inputs and the costs, the words of `check` with these four names and the
-- same root end with `accepted`, if `check` reads files of so many bytes
abbrev pub OwnReportsAreAccepted : Type 0
OwnReportsAreAccepted = (words again : List (List ℕ)) (given : AnalyseWords) (report : List ℕ) → command_of words ≡ Some (Analyse given) → given.certified ≡ true
    → command_of again ≡ Some (Check (check_words given report))
    → (files later : Files) (before after : Log) (text : List ℕ) → EndsSo (task_of words).work (Some files) before (Finished text) after
    → HoldSame given files later → later report ≡ Some text → length text ≤ most_report_bytes
    → EndsAccepted again later

-- where a told file of C gives the program and a told file of inputs its rows, the run from each list of numbers inside
-- the ranges of these rows has the outcome of the unit from the cells that hold these very numbers, and no other cells
-- hold them
abbrev pub RunsOfCHaveTheirOwnOutcome : Type 0
RunsOfCHaveTheirOwnOutcome = (file root : List ℕ) (inputs : Option (List ℕ)) (files : Files) (program : NumberedProgram) (rows : List InputRow) (numbers : List ℤ)
    → (of_unit : IsProgramOfUnit file root files program)
    → AreInputs inputs files program rows
    → AreWithin rows numbers
    → HasUnitsOutcomeFrom of_unit.unit root program rows numbers

-- a report and the same in the second form are sound for the same programs, inputs and costs, and `check` answers both
-- alike
abbrev pub MigratedReportsSayTheSame : Type 0
MigratedReportsSayTheSame = (program : NumberedProgram) (graph : GraphParts) (rows : List InputRow) (costs : CostTable) (report : Reported)
    → (IsAcceptedOf program graph rows costs report ↔ IsAcceptedOf program graph rows costs (migrated report))
    × ((answer : Option Objection)
    → IsCheckOf program graph rows costs report answer ↔ IsCheckOf program graph rows costs (migrated report) answer)
