use Rattle.c_tokens.proofs.Pieces.{tokens_stand}
use Rattle.c_tokens.proofs.laws.tokens_stand_in_their_texts.Goals as goal

pub returns : goal.returns
returns c = tokens_stand
