-- The law of the files of reports.
--   FilesMeanTheirReport   the report that bytes spell is the only meaning of a file that has them
use Rattle.std.specs.Prelude.{ℕ, List, Ok}
use Rattle.flow_facts.specs.Reports.{Reported}
use Rattle.fact_text.specs.Language.{SpellsReport}
use Rattle.command_plans.specs.Work.{IsOnly}
use Rattle.command_files.specs.ReportFiles.{ReportSpelled}

-- the report that bytes spell is the only meaning of a file that has them
abbrev pub FilesMeanTheirReport : Type 0
FilesMeanTheirReport = (bytes : List ℕ) (report : Reported) → SpellsReport bytes report → IsOnly (ReportSpelled bytes) (Ok report)
