-- A token's kind is that of its bytes.
use Rattle.c_text.proofs.Numbered.{by_texts}
use Rattle.c_text.proofs.spelling_laws.tokens_are_numbered_by_their_texts.Goals as goal

pub returns : goal.returns
returns c = by_texts
