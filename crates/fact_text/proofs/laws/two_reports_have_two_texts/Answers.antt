-- What one text spells is one report.
use Rattle.fact_text.proofs.Written.{texts_differ}
use Rattle.fact_text.proofs.laws.two_reports_have_two_texts.Goals as goal

pub returns : goal.returns
returns c = texts_differ c.printed_texts_are_cut.ensures
