-- `migrate REPORT`: a report of either form, as one of the second.
--   migrating file               the order of work
--   IsMigratedReport file files text   the promise: the text spells the report of the told file in the second form
--   migrate file                 the task
use Rattle.std.specs.Prelude.{◌≡◌, ℕ, List, ◌∷◌, []}
use Rattle.flow_base.specs.Outside.{Files}
use Rattle.flow_facts.specs.Reports.{Reported}
use Rattle.fact_words.specs.Canonical.{report_text}
use Rattle.fact_text.specs.Language.{SpellsReport}
use Rattle.report_forms.specs.Migrating.{migrated}
use Rattle.command_plans.specs.Work.{Work, done, ◌>>=◌}
use Rattle.command_files.specs.ReportFiles.{report_in, IsToldReport}
use Rattle.sweet_cli.specs.Task.{Task}

unfoldable pub migrating : List ℕ → Work (List ℕ)
migrating file = do
  report ← report_in file
  done (report_text (migrated report))

-- the text spells the report of the told file in the second form, and is that report's canonical text; `report_forms`
-- has the law that it is sound exactly where the given one is
pub record IsMigratedReport (file : List ℕ) (files : Files) (text : List ℕ) : Type 0 where
  pub report : Reported
  pub report_told : IsToldReport file files report
  pub shown : SpellsReport text (migrated report)
  pub canonical : text ≡ report_text (migrated report)

abbrev pub migrate : List ℕ → Task
migrate file = record { work = migrating file; names = file ∷ []; Promise = IsMigratedReport file }
