-- What is left to show of `a_root_is_defined`.
use Rattle.std.proofs.Common.{refl}
use Rattle.c_rules.proofs.worked.a_root_is_defined.Goals as goal

pub returns-clause-text : goal.returns-clause-text
returns-clause-text c = refl

pub returns-clause-none : goal.returns-clause-none
returns-clause-none c = refl

pub returns-clause-some : goal.returns-clause-some
returns-clause-some c = refl
