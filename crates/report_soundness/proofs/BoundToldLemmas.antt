-- On the way to the laws of bound told.
--   told_about     each is about the outline
use Rattle.std.proofs.Common.{All}
use Rattle.lists.specs.MemberLaws.{all_members}
use Rattle.domain_core.specs.Outlines.{Outlined, shape_of}
use Rattle.flow_facts.specs.declared.fact.Fact.{Fact}
use Rattle.flow_facts.specs.declared.fact.Fact.TheVariants.{Loop, Count, Dead, Total, Pair, Alarm}
use Rattle.flow_facts.specs.Facts.{IsAbout}
use Rattle.report_soundness.specs.ReportTold.{Found, told_facts}
use Rattle.report_soundness.specs.Lines.{IsLine}
use Rattle.report_soundness.specs.LineLaws.{told_line}
use Rattle.report_soundness.specs.BoundToldLaws.{low}

-- ---- shapes

module _ (o : Outlined) (found : Found) where
  about : (fact : Fact) → IsLine o found fact → IsAbout (shape_of o) fact
  about (Loop s least most) is = is.1.there
  about (Count s n least most) (within, stepped, counted, span) = (within, low o found n span.there)
  about (Dead n) is = low o found n is.0
  about (Total n least most) is = low o found n is.1.there
  about (Pair s a b) is = (is.0, low o found a is.1.apart.first, low o found b is.1.apart.second)
  about (Alarm n fault) is = low o found n is.0

  -- each is about the outline
  pub told_about : All (λ f. IsAbout (shape_of o) f) (told_facts o found)
  told_about = all_members (λ f. IsAbout (shape_of o) f) (told_facts o found) (λ fact there. about fact (told_line o found fact there))
