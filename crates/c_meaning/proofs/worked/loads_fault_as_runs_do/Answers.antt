-- What is left to show of `loads_fault_as_runs_do`.
use Rattle.std.proofs.Common.{refl}
use Rattle.c_meaning.proofs.worked.loads_fault_as_runs_do.Goals as goal

pub returns-clause-word : goal.returns-clause-word
returns-clause-word c = refl

pub returns-clause-nothing : goal.returns-clause-nothing
returns-clause-nothing c = refl

pub returns-clause-past : goal.returns-clause-past
returns-clause-past c = refl
