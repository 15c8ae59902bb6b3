use Rattle.memory_rules.specs.AbstractSets.{abstract_sets}
use Rattle.memory_rules.specs.AbstractSetLaws.{abstract_is_sets}
use Rattle.memory_rules.proofs.MemoryProofLemmas.{sharp_store, sharp_pin}
use Rattle.memory_rules.proofs.laws.a_sharp_frame_stays_sharp.Goals as goal

pub returns-clause-store : goal.returns-clause-store
returns-clause-store c = sharp_store abstract_sets abstract_is_sets

pub returns-clause-pin : goal.returns-clause-pin
returns-clause-pin c = sharp_pin abstract_sets abstract_is_sets
