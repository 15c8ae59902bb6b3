use Rattle.memory_rules.specs.AbstractSets.{abstract_sets}
use Rattle.memory_rules.specs.AbstractSetLaws.{abstract_is_sets}
use Rattle.memory_rules.proofs.MemoryProofLemmas.{pin_sized}
use Rattle.memory_rules.specs.MemoryProofLaws.{store_sized, memory_pin_sized, join_sized, enter_sized, leave_sized}
use Rattle.memory_rules.proofs.laws.each_call_keeps_the_sizes.Goals as goal

pub returns-clause-store : goal.returns-clause-store
returns-clause-store c = store_sized abstract_sets abstract_is_sets

pub returns-clause-pin : goal.returns-clause-pin
returns-clause-pin c = pin_sized abstract_sets abstract_is_sets

pub returns-clause-memory_pin : goal.returns-clause-memory_pin
returns-clause-memory_pin c = memory_pin_sized abstract_sets abstract_is_sets

pub returns-clause-join : goal.returns-clause-join
returns-clause-join c = join_sized abstract_sets abstract_is_sets

pub returns-clause-enter : goal.returns-clause-enter
returns-clause-enter c = enter_sized abstract_sets abstract_is_sets

pub returns-clause-leave : goal.returns-clause-leave
returns-clause-leave c = leave_sized abstract_sets abstract_is_sets
