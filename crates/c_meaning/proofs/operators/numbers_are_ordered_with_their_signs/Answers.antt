-- What is left to show of `numbers_are_ordered_with_their_signs`.
use Rattle.std.proofs.Common.{refl}
use Rattle.c_meaning.proofs.operators.numbers_are_ordered_with_their_signs.Goals as goal

pub returns-clause-less : goal.returns-clause-less
returns-clause-less c = refl

pub returns-clause-not_less : goal.returns-clause-not_less
returns-clause-not_less c = refl

pub returns-clause-level : goal.returns-clause-level
returns-clause-level c = refl

pub returns-clause-without_sign : goal.returns-clause-without_sign
returns-clause-without_sign c = refl

pub returns-clause-great : goal.returns-clause-great
returns-clause-great c = refl

pub returns-clause-greater : goal.returns-clause-greater
returns-clause-greater c = refl

pub returns-clause-not_greater : goal.returns-clause-not_greater
returns-clause-not_greater c = refl

pub returns-clause-at_most : goal.returns-clause-at_most
returns-clause-at_most c = refl

pub returns-clause-more : goal.returns-clause-more
returns-clause-more c = refl

pub returns-clause-at_least : goal.returns-clause-at_least
returns-clause-at_least c = refl

pub returns-clause-fewer : goal.returns-clause-fewer
returns-clause-fewer c = refl

pub returns-clause-equal : goal.returns-clause-equal
returns-clause-equal c = refl

pub returns-clause-unequal : goal.returns-clause-unequal
returns-clause-unequal c = refl
