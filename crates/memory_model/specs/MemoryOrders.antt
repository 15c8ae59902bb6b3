-- Abstract memories as a lattice.
--   AreAlike a b           the same functions run, and the values of both have their sizes
--   memory_order rows      what is covered by a memory is covered by each that is above it, and a join is cell by cell
--   MemoriesAreALattice    it is an order, and a join is above both sides
use Rattle.std.specs.Prelude.{◌≡◌, ℕ, List}
use Rattle.alf_ops.specs.declared.history.FrameShape.{FrameShape}
use Rattle.alf_ops.specs.declared.history.RunEvent.{RunEvent}
use Rattle.alf_ops.specs.Histories.{IsSoundHistory}
use Rattle.domain_core.specs.Orders.{Order, IsOrder}
use Rattle.memory_rules.specs.AbstractSets.{abstract_sets}
use Rattle.memory_rules.specs.Memories.{Mem, both, MemCovers, MemSized}

-- the same functions run, and the values have their sizes
pub record AreAlike (a b : Mem abstract_sets) : Type 0 where
  pub runs : (function : ℕ) → a.runs function ≡ b.runs function
  pub first : MemSized abstract_sets a
  pub second : MemSized abstract_sets b

-- what is covered stays covered above
abbrev pub memory_order : List FrameShape → Order (Mem abstract_sets)
memory_order rows = record {
  alike = AreAlike;
  under = λ a b. (history : List RunEvent) → IsSoundHistory history → MemCovers abstract_sets rows a history → MemCovers abstract_sets rows b history;
  joined = both abstract_sets;
}

abbrev pub MemoriesAreALattice : Type 0
MemoriesAreALattice = (rows : List FrameShape) → IsOrder (Mem abstract_sets) (memory_order rows)
