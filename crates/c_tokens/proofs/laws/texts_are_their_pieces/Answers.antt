use Rattle.c_tokens.proofs.Pieces.{pieces_are_the_text}
use Rattle.c_tokens.proofs.laws.texts_are_their_pieces.Goals as goal

pub returns : goal.returns
returns c = pieces_are_the_text
