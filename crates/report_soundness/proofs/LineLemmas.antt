-- On the way to the laws of line.
--   told_lines    each once, in the order of lines
use Rattle.domain_core.specs.Outlines.{Outlined}
use Rattle.report_soundness.specs.ReportTold.{Found, told_facts}
use Rattle.report_soundness.proofs.LineProofs.{AreLines}
use Rattle.report_soundness.specs.AscentLaws.{told_ascend}
use Rattle.report_soundness.specs.LineLaws.{told_line, line_told}

module _ (o : Outlined) (found : Found) where
  -- ---- each line is told

  -- each once, in the order of lines
  pub told_lines : AreLines o found (told_facts o found)
  told_lines = record { each = λ fact. (told_line o found fact, line_told o found fact); ascend = told_ascend o found }
