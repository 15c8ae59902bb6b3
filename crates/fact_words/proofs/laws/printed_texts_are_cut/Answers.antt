-- Printed texts are cut again.
use Rattle.fact_words.proofs.Printed.{printed_cut}
use Rattle.fact_words.proofs.laws.printed_texts_are_cut.Goals as goal

pub returns : goal.returns
returns c = printed_cut
