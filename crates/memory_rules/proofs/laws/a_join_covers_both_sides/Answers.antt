use Rattle.memory_rules.specs.AbstractSets.{abstract_sets}
use Rattle.memory_rules.specs.AbstractSetLaws.{abstract_is_sets}
use Rattle.memory_rules.specs.MemoryProofLaws.{join_covers}
use Rattle.memory_rules.proofs.laws.a_join_covers_both_sides.Goals as goal

pub returns : goal.returns
returns c = join_covers abstract_sets abstract_is_sets
