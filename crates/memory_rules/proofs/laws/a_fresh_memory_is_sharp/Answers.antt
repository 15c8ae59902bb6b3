use Rattle.memory_rules.specs.AbstractSets.{abstract_sets}
use Rattle.memory_rules.specs.AbstractSetLaws.{abstract_is_sets}
use Rattle.memory_rules.specs.MemoryProofLaws.{start_sharp}
use Rattle.memory_rules.proofs.laws.a_fresh_memory_is_sharp.Goals as goal

pub returns : goal.returns
returns c = start_sharp abstract_sets abstract_is_sets
