use Rattle.memory_rules.proofs.WorkedRows.{over_zeros, over_nothing, of_bytes}
use Rattle.memory_rules.proofs.worked.a_weak_store_joins.Goals as goal

pub returns-clause-over_zeros : goal.returns-clause-over_zeros
returns-clause-over_zeros c = over_zeros

pub returns-clause-over_nothing : goal.returns-clause-over_nothing
returns-clause-over_nothing c = over_nothing

pub returns-clause-of_bytes : goal.returns-clause-of_bytes
returns-clause-of_bytes c = of_bytes
