-- What is left to show of `comments_and_literals_end`.
use Rattle.std.proofs.Common.{refl}
use Rattle.c_tokens.proofs.worked.comments_and_literals_end.Goals as goal

pub returns-clause-comment : goal.returns-clause-comment
unfolding Rattle.c_tokens.specs.Kinds.kind_of
returns-clause-comment c = refl

pub returns-clause-past : goal.returns-clause-past
unfolding Rattle.c_tokens.specs.Kinds.kind_of
returns-clause-past c = refl

pub returns-clause-overlapping : goal.returns-clause-overlapping
unfolding Rattle.c_tokens.specs.Kinds.kind_of
returns-clause-overlapping c = refl

pub returns-clause-line : goal.returns-clause-line
unfolding Rattle.c_tokens.specs.Kinds.kind_of
returns-clause-line c = refl

pub returns-clause-next_line : goal.returns-clause-next_line
unfolding Rattle.c_tokens.specs.Kinds.kind_of
returns-clause-next_line c = refl

pub returns-clause-letter : goal.returns-clause-letter
unfolding Rattle.c_tokens.specs.Kinds.kind_of
returns-clause-letter c = refl

pub returns-clause-empty : goal.returns-clause-empty
unfolding Rattle.c_tokens.specs.Kinds.kind_of
returns-clause-empty c = refl

pub returns-clause-escaped : goal.returns-clause-escaped
unfolding Rattle.c_tokens.specs.Kinds.kind_of
returns-clause-escaped c = refl

pub returns-clause-digits : goal.returns-clause-digits
unfolding Rattle.c_tokens.specs.Kinds.kind_of
returns-clause-digits c = refl

pub returns-clause-no_escape : goal.returns-clause-no_escape
unfolding Rattle.c_tokens.specs.Kinds.kind_of
returns-clause-no_escape c = refl

pub returns-clause-text : goal.returns-clause-text
unfolding Rattle.c_tokens.specs.Kinds.kind_of
returns-clause-text c = refl

pub returns-clause-wide : goal.returns-clause-wide
unfolding Rattle.c_tokens.specs.Kinds.kind_of
returns-clause-wide c = refl
