-- What is left to show of `calls_name_functions_that_are_defined`.
use Rattle.std.proofs.Common.{refl}
use Rattle.c_rules.proofs.worked.calls_name_functions_that_are_defined.Goals as goal

pub returns-clause-prototype : goal.returns-clause-prototype
returns-clause-prototype c = refl

pub returns-clause-local : goal.returns-clause-local
returns-clause-local c = refl

pub returns-clause-nothing : goal.returns-clause-nothing
returns-clause-nothing c = refl
