-- Some text spells a report exactly where it is writable.
use Rattle.fact_text.proofs.Written.{text_spells}
use Rattle.fact_text.proofs.Kept.{spelled_writable}
use Rattle.fact_words.specs.Canonical.{report_text}
use Rattle.fact_text.proofs.laws.writable_reports_are_spelled.Goals as goal

pub returns : goal.returns
returns c = record {
  exactly = λ whole. (spelled_writable whole, λ w. (report_text whole, text_spells c.printed_texts_are_cut.ensures whole w));
  own = text_spells c.printed_texts_are_cut.ensures;
}
