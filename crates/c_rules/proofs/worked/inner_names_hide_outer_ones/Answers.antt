-- What is left to show of `inner_names_hide_outer_ones`.
use Rattle.std.proofs.Common.{refl}
use Rattle.c_rules.proofs.worked.inner_names_hide_outer_ones.Goals as goal

pub returns-clause-inner : goal.returns-clause-inner
returns-clause-inner c = refl

pub returns-clause-outer : goal.returns-clause-outer
returns-clause-outer c = refl

pub returns-clause-none : goal.returns-clause-none
returns-clause-none c = refl
