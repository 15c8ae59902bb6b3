use Rattle.memory_rules.specs.AbstractSets.{abstract_sets}
use Rattle.memory_rules.specs.AbstractSetLaws.{abstract_is_sets}
use Rattle.memory_rules.proofs.MemoryProofLemmas.{pin_covers}
use Rattle.memory_rules.specs.MemoryProofLaws.{memory_pin_covers}
use Rattle.memory_rules.proofs.laws.a_pin_covers.Goals as goal

pub returns-clause-frame : goal.returns-clause-frame
returns-clause-frame c = pin_covers abstract_sets abstract_is_sets

pub returns-clause-memory : goal.returns-clause-memory
returns-clause-memory c = memory_pin_covers abstract_sets abstract_is_sets
