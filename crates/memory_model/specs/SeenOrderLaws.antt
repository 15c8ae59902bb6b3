-- Laws of seen orders.
--   joined_seen     the parts of the join stand for the join
--   joined_is       and are parts of a memory
--   parts_are_order it is an order, and a join is above both sides
use Rattle.std.proofs.Common.{◌≡◌, subst, sym, List}
use Rattle.alf_ops.specs.declared.history.FrameShape.{FrameShape}
use Rattle.alf_ops.specs.declared.history.RunEvent.{RunEvent}
use Rattle.alf_ops.specs.Histories.{IsSoundHistory}
use Rattle.alf_check.specs.CheckedPrograms.{CheckedParts}
use Rattle.domain_core.specs.Orders.{IsOrder}
use Rattle.memory_rules.specs.AbstractSets.{abstract_sets}
use Rattle.memory_rules.specs.AbstractSetLaws.{abstract_is_sets}
use Rattle.memory_rules.specs.Memories.{Mem, both, MemCovers}
use Rattle.memory_rules.specs.MemoryProofLaws.{join_covers, join_sized}
use Rattle.memory_model.specs.KeptMemories.{MemoryParts, memory_in, rows_of, functions_of, IsMemory}
use Rattle.memory_model.specs.Within.{IsWithin}
use Rattle.memory_model.specs.KeptMemoryLaws.{memory_is, is_within, made_is, both_within}
use Rattle.memory_model.specs.SeenOrders.{AreAlike, joined, parts_order}

module _ (a b : MemoryParts) (alike : AreAlike a b) where
  within : IsWithin (functions_of a.checked) (rows_of a.checked) (both abstract_sets (memory_in a) (memory_in b))
  within =
      both_within (functions_of a.checked) (rows_of a.checked) (memory_in a) (memory_in b) (is_within a alike.first)
      (subst (λ (c : CheckedParts). IsWithin (functions_of c) (rows_of c) (memory_in b)) (sym alike.checked) (is_within b alike.second))

  -- the parts of the join stand for the join
  pub joined_seen : memory_in (joined a b) ≡ both abstract_sets (memory_in a) (memory_in b)
  joined_seen = memory_is a.checked (both abstract_sets (memory_in a) (memory_in b)) within

  -- and are parts of a memory
  pub joined_is : IsMemory (joined a b)
  joined_is = made_is a.checked (both abstract_sets (memory_in a) (memory_in b)) within
      (join_sized abstract_sets abstract_is_sets (memory_in a) (memory_in b) alike.first.sized alike.second.sized)

  covers : (rows : List FrameShape) (history : List RunEvent) → IsSoundHistory history
      → (MemCovers abstract_sets rows (memory_in a) history → MemCovers abstract_sets rows (both abstract_sets (memory_in a) (memory_in b)) history)
      × (MemCovers abstract_sets rows (memory_in b) history → MemCovers abstract_sets rows (both abstract_sets (memory_in a) (memory_in b)) history)
  covers rows history sound =
      join_covers abstract_sets abstract_is_sets rows (memory_in a) (memory_in b) history sound alike.first.sized alike.second.sized alike.runs

-- it is an order, and a join is above both sides
pub parts_are_order : IsOrder MemoryParts parts_order
parts_are_order = record {
  itself = λ a rows history sound h. h;
  farther = λ a b c first second rows history sound h. second rows history sound (first rows history sound h);
  left = λ a b alike rows history sound h.
      subst (λ (m : Mem abstract_sets). MemCovers abstract_sets rows m history) (sym (joined_seen a b alike)) ((covers a b alike rows history sound).0 h);
  right = λ a b alike rows history sound h.
      subst (λ (m : Mem abstract_sets). MemCovers abstract_sets rows m history) (sym (joined_seen a b alike)) ((covers a b alike rows history sound).1 h);
}
