-- `generate N`: a program of C that is made, and the numbers of its report.
--   summing                      the order of work of `analyse` of its file, where the numbers of the report are told
--   EndsOver w files meaning     over these files work gives this value, or stops with this outcome
--   TellsSummary files text      the promise: the text tells the numbers of a report that is sound for the program of the
--       file
--   generate n                   the task
use Rattle.std.specs.Prelude.{◌≡◌, ℕ, List, [], Some, Result, Ok, Err}
use Rattle.flow_base.specs.Outside.{Files}
use Rattle.alf_check.specs.CheckedPrograms.{NumberedProgram}
use Rattle.flow_graph.specs.Numbering.{GraphParts, IsGraph}
use Rattle.cost_table.specs.CostTables.{one_each}
use Rattle.flow_facts.specs.Reports.{Reported}
use Rattle.program_analysis.specs.BoundedAnalyses.{IsPrintedReport}
use Rattle.command_plans.specs.Outcome.{Outcome, IsOfFiles}
use Rattle.command_plans.specs.Log.{Log}
use Rattle.command_plans.specs.Work.{Work, judged, done, ◌>>=◌}
use Rattle.program_files.specs.Told.{IsToldProgram}
use Rattle.answer_texts.specs.SummaryText.{summary_text, turns_of}
use Rattle.command_files.specs.Scopes.{scoped_in}
use Rattle.command_files.specs.Tables.{tables_in}
use Rattle.sweet_cli.specs.Analyse.{policy_of, ReportMeans, IsSoundOf}
use Rattle.sweet_cli.specs.MadeFile.{made_files, made_words}
use Rattle.sweet_cli.specs.Task.{Task}

-- as `analyse` does with these words, but that the numbers of the report are told
unfoldable pub summing : Work (List ℕ)
summing = do
  program ← scoped_in made_words.program made_words.root
  tables ← tables_in program.expanded.program made_words.inputs made_words.costs
  report ← judged (ReportMeans made_words.certified program tables.rows tables.costs (policy_of made_words.merging)
      made_words.turns made_words.pivots)
  done (summary_text report)

-- over these files, whatever was read before, work gives this value, or stops with this outcome, and no read fails
abbrev pub EndsOver : {A : Type 0} → Work A → Files → Result A Outcome → Type 0
EndsOver w files (Ok a) = (before : Log) × (after : Log) × w.steps.Gives (Some files) before a after
EndsOver w files (Err outcome) =
    (before : Log) × (after : Log) × IsOfFiles outcome × w.steps.Stops (Some files) before outcome after

-- the text tells the numbers of a report: that of the program that the file gives, by the exploration in the given
-- turns. It is sound for the program, and the turns that are told are the steps of that exploration
pub record TellsSummary (files : Files) (text : List ℕ) : Type 0 where
  pub program : NumberedProgram
  pub graph : GraphParts
  pub report : Reported
  pub program_told : IsToldProgram made_words.program made_words.root files program
  pub graph_is : IsGraph program graph
  pub found : IsPrintedReport made_words.certified program graph [] one_each (policy_of made_words.merging)
      made_words.turns made_words.pivots report
  pub turns_are : turns_of report ≡ found.analysis.found.pool.steps
  pub sound : IsSoundOf program graph [] one_each report
  pub shown : text ≡ summary_text report

-- over the file that is made; none of those at hand is read
abbrev pub generate : ℕ → Task
generate n = record {
  work = judged (EndsOver summing (made_files n));
  names = [];
  Promise = λ files text. TellsSummary (made_files n) text;
}
