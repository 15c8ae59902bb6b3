-- What is left to show of `texts_are_of_their_kinds`.
use Rattle.std.proofs.Common.{refl}
use Rattle.c_tokens.proofs.worked.texts_are_of_their_kinds.Goals as goal

pub returns-clause-identifier : goal.returns-clause-identifier
unfolding Rattle.c_tokens.specs.Kinds.kind_of
returns-clause-identifier c = refl

pub returns-clause-digit_first : goal.returns-clause-digit_first
unfolding Rattle.c_tokens.specs.Kinds.kind_of
returns-clause-digit_first c = refl

pub returns-clause-exponent : goal.returns-clause-exponent
unfolding Rattle.c_tokens.specs.Kinds.kind_of
returns-clause-exponent c = refl

pub returns-clause-sum : goal.returns-clause-sum
unfolding Rattle.c_tokens.specs.Kinds.kind_of
returns-clause-sum c = refl

pub returns-clause-period : goal.returns-clause-period
unfolding Rattle.c_tokens.specs.Kinds.kind_of
returns-clause-period c = refl

pub returns-clause-arrow : goal.returns-clause-arrow
unfolding Rattle.c_tokens.specs.Kinds.kind_of
returns-clause-arrow c = refl

pub returns-clause-turned : goal.returns-clause-turned
unfolding Rattle.c_tokens.specs.Kinds.kind_of
returns-clause-turned c = refl

pub returns-clause-shift : goal.returns-clause-shift
unfolding Rattle.c_tokens.specs.Kinds.kind_of
returns-clause-shift c = refl

pub returns-clause-three : goal.returns-clause-three
unfolding Rattle.c_tokens.specs.Kinds.kind_of
returns-clause-three c = refl

pub returns-clause-digraphs : goal.returns-clause-digraphs
unfolding Rattle.c_tokens.specs.Kinds.kind_of
returns-clause-digraphs c = refl

pub returns-clause-single : goal.returns-clause-single
unfolding Rattle.c_tokens.specs.Kinds.kind_of
returns-clause-single c = refl

pub returns-clause-no_token : goal.returns-clause-no_token
unfolding Rattle.c_tokens.specs.Kinds.kind_of
returns-clause-no_token c = refl
