-- Abstract memories are a lattice.
use Rattle.memory_rules.specs.AbstractSets.{abstract_sets}
use Rattle.memory_rules.specs.AbstractSetLaws.{abstract_is_sets}
use Rattle.memory_rules.specs.MemoryProofLaws.{join_covers}
use Rattle.memory_model.specs.MemoryOrders.{MemoriesAreALattice}

pub memories_are : MemoriesAreALattice
memories_are rows = record {
  itself = λ a history sound covers. covers;
  farther = λ a b c first second history sound covers. second history sound (first history sound covers);
  left = λ a b alike history sound covers. (join_covers abstract_sets abstract_is_sets rows a b history sound alike.first alike.second alike.runs).0 covers;
  right = λ a b alike history sound covers. (join_covers abstract_sets abstract_is_sets rows a b history sound alike.first alike.second alike.runs).1 covers;
}
