-- What is left to show of `globals_and_arguments_are_inputs`.
use Rattle.std.proofs.Common.{refl}
use Rattle.cost_table.proofs.worked.globals_and_arguments_are_inputs.Goals as goal

pub returns-clause-global : goal.returns-clause-global
returns-clause-global c = refl

pub returns-clause-argument : goal.returns-clause-argument
returns-clause-argument c = refl

pub returns-clause-local : goal.returns-clause-local
returns-clause-local c = refl

pub returns-clause-other : goal.returns-clause-other
returns-clause-other c = refl
