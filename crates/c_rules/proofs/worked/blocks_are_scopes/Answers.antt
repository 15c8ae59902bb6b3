-- What is left to show of `blocks_are_scopes`.
use Rattle.std.proofs.Common.{refl}
use Rattle.c_rules.proofs.worked.blocks_are_scopes.Goals as goal

pub returns-clause-inner : goal.returns-clause-inner
returns-clause-inner c = refl

pub returns-clause-outermost : goal.returns-clause-outermost
returns-clause-outermost c = refl
