-- What is left to show of `tokens_are_the_longest`.
use Rattle.std.proofs.Common.{refl}
use Rattle.c_tokens.proofs.worked.tokens_are_the_longest.Goals as goal

pub returns-clause-plus : goal.returns-clause-plus
unfolding Rattle.c_tokens.specs.Tokens.tokens_of Rattle.c_tokens.specs.Tokens.pieces_of Rattle.c_tokens.specs.Tokens.longest Rattle.c_tokens.specs.Kinds.kind_of
returns-clause-plus c = refl

pub returns-clause-blanks : goal.returns-clause-blanks
unfolding Rattle.c_tokens.specs.Tokens.tokens_of Rattle.c_tokens.specs.Tokens.pieces_of Rattle.c_tokens.specs.Tokens.longest Rattle.c_tokens.specs.Kinds.kind_of
returns-clause-blanks c = refl
