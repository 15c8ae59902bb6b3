-- What the texts of reports promise.
--   ReportsHaveOneText       a text that means a report is the text of that report
--   TextsSpellTheirReports   a text means a report exactly where the report is writable and the text is its text
use Rattle.std.specs.Prelude.{◌≡◌, ◌↔◌, ℕ, List, Ok}
use Rattle.flow_facts.specs.Reports.{Reported}
use Rattle.flow_facts.specs.Writable.{IsWritable}
use Rattle.fact_words.specs.Canonical.{report_text}
use Rattle.fact_text.specs.Language.{Means}

abbrev pub ReportsHaveOneText : Type 0
ReportsHaveOneText = (bytes : List ℕ) (whole : Reported) → Means bytes (Ok whole) → bytes ≡ report_text whole

abbrev pub TextsSpellTheirReports : Type 0
TextsSpellTheirReports = (bytes : List ℕ) (whole : Reported) → Means bytes (Ok whole) ↔ (IsWritable whole × (bytes ≡ report_text whole))
