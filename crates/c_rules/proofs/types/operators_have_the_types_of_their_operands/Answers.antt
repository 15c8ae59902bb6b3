-- What is left to show of `operators_have_the_types_of_their_operands`.
use Rattle.std.proofs.Common.{refl}
use Rattle.c_rules.proofs.types.operators_have_the_types_of_their_operands.Goals as goal

pub returns-clause-shifted : goal.returns-clause-shifted
returns-clause-shifted c = refl

pub returns-clause-shifted_right : goal.returns-clause-shifted_right
returns-clause-shifted_right c = refl

pub returns-clause-added : goal.returns-clause-added
returns-clause-added c = refl

pub returns-clause-compared : goal.returns-clause-compared
returns-clause-compared c = refl

pub returns-clause-joined : goal.returns-clause-joined
returns-clause-joined c = refl

pub returns-clause-no_pointer : goal.returns-clause-no_pointer
returns-clause-no_pointer c = refl

pub returns-clause-indexed : goal.returns-clause-indexed
returns-clause-indexed c = refl

pub returns-clause-turned : goal.returns-clause-turned
returns-clause-turned c = refl
