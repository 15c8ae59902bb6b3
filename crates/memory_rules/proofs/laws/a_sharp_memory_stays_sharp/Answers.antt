use Rattle.memory_rules.specs.AbstractSets.{abstract_sets}
use Rattle.memory_rules.specs.AbstractSetLaws.{abstract_is_sets}
use Rattle.memory_rules.specs.MemoryProofLaws.{memory_stays_sharp, memory_pin_sharp, sharp_enter, sharp_leave}
use Rattle.memory_rules.proofs.laws.a_sharp_memory_stays_sharp.Goals as goal

pub returns-clause-store : goal.returns-clause-store
returns-clause-store c = memory_stays_sharp abstract_sets abstract_is_sets

pub returns-clause-pin : goal.returns-clause-pin
returns-clause-pin c = memory_pin_sharp abstract_sets abstract_is_sets

pub returns-clause-enter : goal.returns-clause-enter
returns-clause-enter c = sharp_enter abstract_sets abstract_is_sets

pub returns-clause-leave : goal.returns-clause-leave
returns-clause-leave c = sharp_leave abstract_sets abstract_is_sets
