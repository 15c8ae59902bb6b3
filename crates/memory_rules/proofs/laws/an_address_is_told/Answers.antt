use Rattle.memory_rules.specs.AddressLaws.{loads_at, stores_at, faults_at}
use Rattle.memory_rules.proofs.laws.an_address_is_told.Goals as goal

pub returns-clause-load : goal.returns-clause-load
returns-clause-load c = loads_at

pub returns-clause-store : goal.returns-clause-store
returns-clause-store c = stores_at

pub returns-clause-fault : goal.returns-clause-fault
returns-clause-fault c = faults_at
