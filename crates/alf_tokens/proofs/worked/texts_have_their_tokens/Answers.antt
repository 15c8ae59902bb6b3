-- What is left to show of `texts_have_their_tokens`.
use Rattle.std.proofs.Common.{refl}
use Rattle.alf_tokens.proofs.worked.texts_have_their_tokens.Goals as goal

pub returns-clause-braces : goal.returns-clause-braces
unfolding Rattle.alf_tokens.specs.Tokens.tokens_of Rattle.alf_tokens.specs.Tokens.tokens_from Rattle.alf_tokens.specs.Tokens.piece Rattle.alf_tokens.specs.Bytes.to_close
returns-clause-braces c = refl

pub returns-clause-comment : goal.returns-clause-comment
unfolding Rattle.alf_tokens.specs.Tokens.tokens_of Rattle.alf_tokens.specs.Tokens.tokens_from Rattle.alf_tokens.specs.Tokens.piece Rattle.alf_tokens.specs.Bytes.to_close
returns-clause-comment c = refl

pub returns-clause-blanks : goal.returns-clause-blanks
unfolding Rattle.alf_tokens.specs.Tokens.tokens_of Rattle.alf_tokens.specs.Tokens.tokens_from Rattle.alf_tokens.specs.Tokens.piece Rattle.alf_tokens.specs.Bytes.to_close
returns-clause-blanks c = refl

pub returns-clause-name : goal.returns-clause-name
unfolding Rattle.alf_tokens.specs.Tokens.tokens_of Rattle.alf_tokens.specs.Tokens.tokens_from Rattle.alf_tokens.specs.Tokens.piece Rattle.alf_tokens.specs.Bytes.to_close
returns-clause-name c = refl

pub returns-clause-apart : goal.returns-clause-apart
unfolding Rattle.alf_tokens.specs.Tokens.tokens_of Rattle.alf_tokens.specs.Tokens.tokens_from Rattle.alf_tokens.specs.Tokens.piece Rattle.alf_tokens.specs.Bytes.to_close
returns-clause-apart c = refl
