-- What is left to show of `positions_go_from_the_outermost_scope`.
use Rattle.std.proofs.Common.{refl}
use Rattle.worklist_rules.proofs.worked.positions_go_from_the_outermost_scope.Goals as goal

pub returns-clause-within : goal.returns-clause-within
returns-clause-within c = refl

pub returns-clause-behind : goal.returns-clause-behind
returns-clause-behind c = refl

pub returns-clause-again : goal.returns-clause-again
returns-clause-again c = refl

pub returns-clause-goes_on : goal.returns-clause-goes_on
returns-clause-goes_on c = refl
