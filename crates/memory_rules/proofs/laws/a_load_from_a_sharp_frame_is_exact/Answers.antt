use Rattle.memory_rules.specs.AbstractSets.{abstract_sets}
use Rattle.memory_rules.specs.AbstractSetLaws.{abstract_is_sets}
use Rattle.memory_rules.specs.MemoryProofLaws.{exact_load}
use Rattle.memory_rules.proofs.laws.a_load_from_a_sharp_frame_is_exact.Goals as goal

pub returns : goal.returns
returns c = exact_load abstract_sets abstract_is_sets
