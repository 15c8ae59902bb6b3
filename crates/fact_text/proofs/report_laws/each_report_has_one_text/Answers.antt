-- The words of a spelling are the text.
use Rattle.fact_text.proofs.Texts.{one_text, exactly_their_texts}
use Rattle.fact_text.proofs.report_laws.each_report_has_one_text.Goals as goal

pub returns : goal.returns
returns c =
    let are = c.texts_are_their_tokens.ensures in
    let writable = c.writable_reports_are_spelled.ensures in
    record { one = one_text are; exactly = exactly_their_texts are writable.exactly writable.own }
