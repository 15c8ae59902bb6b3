use Rattle.memory_rules.specs.AbstractSetLaws.{abstract_is_sets}
use Rattle.memory_rules.proofs.laws.abstract_values_suit_a_memory.Goals as goal

pub returns : goal.returns
returns c = abstract_is_sets
