-- What is left to show of `operators_are_nested_in_one_another`.
use Rattle.std.proofs.Common.{refl}
use Rattle.c_unit.proofs.worked.operators_are_nested_in_one_another.Goals as goal

pub returns-clause-name : goal.returns-clause-name
returns-clause-name c = refl

pub returns-clause-parentheses : goal.returns-clause-parentheses
returns-clause-parentheses c = refl

pub returns-clause-deepest : goal.returns-clause-deepest
returns-clause-deepest c = refl

pub returns-clause-right : goal.returns-clause-right
returns-clause-right c = refl

pub returns-clause-cast : goal.returns-clause-cast
returns-clause-cast c = refl

pub returns-clause-index : goal.returns-clause-index
returns-clause-index c = refl
