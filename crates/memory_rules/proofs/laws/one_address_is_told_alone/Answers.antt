use Rattle.memory_rules.specs.AddressSharpLaws.{loads_only, stores_only, faults_only}
use Rattle.memory_rules.proofs.laws.one_address_is_told_alone.Goals as goal

pub returns-clause-load : goal.returns-clause-load
returns-clause-load c = loads_only

pub returns-clause-store : goal.returns-clause-store
returns-clause-store c = stores_only

pub returns-clause-fault : goal.returns-clause-fault
returns-clause-fault c = faults_only
