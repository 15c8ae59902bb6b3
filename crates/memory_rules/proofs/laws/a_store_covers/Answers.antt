use Rattle.memory_rules.specs.AbstractSets.{abstract_sets}
use Rattle.memory_rules.specs.AbstractSetLaws.{abstract_is_sets}
use Rattle.memory_rules.specs.MemoryProofLaws.{store_covers}
use Rattle.memory_rules.proofs.laws.a_store_covers.Goals as goal

pub returns : goal.returns
returns c = store_covers abstract_sets abstract_is_sets
