-- What texts of reports promise.
--   SpelledWhereWritable   some text spells a report exactly where the report is writable, a condition on reports alone
--   ReportTextsSpell       the text of each writable report spells it
--   ReportsHaveOwnTexts    two writable reports have two texts
use Rattle.std.specs.Prelude.{◌≡◌, ◌↔◌}
use Rattle.flow_facts.specs.Reports.{Reported}
use Rattle.flow_facts.specs.Writable.{IsWritable}
use Rattle.fact_words.specs.Canonical.{report_text}
use Rattle.fact_text.specs.Language.{SpellsReport, IsSpelled}

abbrev pub SpelledWhereWritable : Type 0
SpelledWhereWritable = (whole : Reported) → IsSpelled whole ↔ IsWritable whole

abbrev pub ReportTextsSpell : Type 0
ReportTextsSpell = (whole : Reported) → IsWritable whole → SpellsReport (report_text whole) whole

abbrev pub ReportsHaveOwnTexts : Type 0
ReportsHaveOwnTexts = (whole other : Reported) → IsWritable whole → IsWritable other → report_text whole ≡ report_text other → whole ≡ other
