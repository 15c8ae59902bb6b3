-- The report that a command reads.
--   most_report_bytes, long_report   the most bytes of a report's file, and the line of one that has more
--   ReportSpelled bytes meaning      the report that the bytes spell, or the line of their first departure
--   report_in file                   the file is read, and its report
--   IsToldReport file files report   the told file spells the report
use Rattle.std.specs.Prelude.{◌≡◌, ℕ, List, Result, Ok, Err, Some, codes}
use Rattle.flow_base.specs.Outside.{Files}
use Rattle.flow_facts.specs.Reports.{Reported}
use Rattle.fact_text.specs.Language.{Departure, Means, SpellsReport}
use Rattle.command_plans.specs.declared.reading.Role.TheVariants.{Report}
use Rattle.command_plans.specs.Outcome.{Outcome, refused}
use Rattle.command_plans.specs.Work.{Work, reads, judged, ◌>>=◌}
use Rattle.answer_texts.specs.ReportFaultLines.{report_fault_line}

-- the most bytes of a report's file
abbrev pub most_report_bytes : ℕ
most_report_bytes = 67108864

-- the line of one that has more
abbrev pub long_report : List ℕ
long_report = codes "fault 13 limit bytes 67108865\n"

-- the report that the bytes spell, or the line of their first departure from the grammar
abbrev pub ReportSpelled : List ℕ → Result Reported Outcome → Type 0
ReportSpelled bytes (Ok report) = Means bytes (Ok report)
ReportSpelled bytes (Err outcome) =
    (departure : Departure) × Means bytes (Err departure) × (outcome ≡ refused (report_fault_line departure))

-- the file is read, and its report
unfoldable pub report_in : List ℕ → Work Reported
report_in file = do
  bytes ← reads Report file most_report_bytes long_report
  judged (ReportSpelled bytes)

-- the told file spells the report
abbrev pub IsToldReport : List ℕ → Files → Reported → Type 0
IsToldReport file files report = (bytes : List ℕ) × (files file ≡ Some bytes) × SpellsReport bytes report
