-- What is left to show of `quotients_go_toward_zero`.
use Rattle.std.proofs.Common.{refl}
use Rattle.c_meaning.proofs.operators.quotients_go_toward_zero.Goals as goal

pub returns-clause-negative : goal.returns-clause-negative
returns-clause-negative c = refl

pub returns-clause-rest : goal.returns-clause-rest
returns-clause-rest c = refl

pub returns-clause-by_negative : goal.returns-clause-by_negative
returns-clause-by_negative c = refl

pub returns-clause-rest_by_negative : goal.returns-clause-rest_by_negative
returns-clause-rest_by_negative c = refl

pub returns-clause-without_sign : goal.returns-clause-without_sign
returns-clause-without_sign c = refl

pub returns-clause-by_zero : goal.returns-clause-by_zero
returns-clause-by_zero c = refl
