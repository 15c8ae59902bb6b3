use Rattle.c_tokens.proofs.Pieces.{tokens_known}
use Rattle.c_tokens.proofs.laws.tokens_are_known_by_their_texts.Goals as goal

pub returns : goal.returns
returns c = tokens_known
