use Rattle.c_tokens.proofs.Printing.{printed_cut}
use Rattle.c_tokens.proofs.laws.printed_texts_are_cut.Goals as goal

pub returns : goal.returns
returns c = printed_cut
