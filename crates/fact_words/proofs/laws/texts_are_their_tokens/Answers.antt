-- The tokens are the text.
use Rattle.fact_words.proofs.Cutting.{tokens_are_text}
use Rattle.fact_words.proofs.laws.texts_are_their_tokens.Goals as goal

pub returns : goal.returns
returns c = tokens_are_text _ _
