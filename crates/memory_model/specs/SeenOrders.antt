-- Memories of code as a lattice.
--   AreAlike a b    both are memories of one program, in which the same functions run
--   joined a b      the parts of the join
--   parts_order     what is covered by a memory is covered by each that is above it, whatever the frames of a program are
use Rattle.std.proofs.Common.{◌≡◌, ℕ, List}
use Rattle.alf_ops.specs.declared.history.FrameShape.{FrameShape}
use Rattle.alf_ops.specs.declared.history.RunEvent.{RunEvent}
use Rattle.alf_ops.specs.Histories.{IsSoundHistory}
use Rattle.domain_core.specs.Orders.{Order}
use Rattle.memory_rules.specs.AbstractSets.{abstract_sets}
use Rattle.memory_rules.specs.Memories.{both, MemCovers}
use Rattle.memory_model.specs.KeptMemories.{MemoryParts, memory_in, IsMemory}
use Rattle.memory_model.specs.Made.{made}

-- both are memories of one program, in which the same functions run
pub record AreAlike (a b : MemoryParts) : Type 0 where
  pub checked : a.checked ≡ b.checked
  pub runs : (function : ℕ) → (memory_in a).runs function ≡ (memory_in b).runs function
  pub first : IsMemory a
  pub second : IsMemory b

-- the parts of the join
abbrev pub joined : MemoryParts → MemoryParts → MemoryParts
joined a b = made a.checked (both abstract_sets (memory_in a) (memory_in b))

-- what is covered stays covered above
abbrev pub parts_order : Order MemoryParts
parts_order = record {
  alike = AreAlike;
  under = λ a b. (rows : List FrameShape) (history : List RunEvent) → IsSoundHistory history
      → MemCovers abstract_sets rows (memory_in a) history → MemCovers abstract_sets rows (memory_in b) history;
  joined = joined;
}
