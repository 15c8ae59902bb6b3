-- What is left to show of `addresses_fault_where_they_lead`.
use Rattle.std.proofs.Common.{refl}
use Rattle.alf_runs.proofs.worked.addresses_fault_where_they_lead.Goals as goal

pub returns-clause-dangling : goal.returns-clause-dangling
returns-clause-dangling c = record { over = refl; passes = refl; costs = refl }

pub returns-clause-outside : goal.returns-clause-outside
returns-clause-outside c = record { over = refl; passes = refl; costs = refl }

pub returns-clause-pointer : goal.returns-clause-pointer
returns-clause-pointer c = record { over = refl; passes = refl; costs = refl }
