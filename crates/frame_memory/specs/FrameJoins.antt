-- Frames of slots joined.
--   join_of a b             the frame of the join
--   seen cell               what a cell that is held is
--   SuitWords a b           where both have words, these have one size
--   SuitValues a b          where both have values, these may be joined
--   with_held slot size cell   the slot that keeps this cell, if there is one
--   AreCanonical slots      the slots keep their cells by size, and nothing else
use Rattle.std.specs.Prelude.{◌≡◌, ℕ, List, map, Option, Some, None, IfSome}
use Rattle.strided_rules.specs.Strides.{Stride}
use Rattle.pointer_rules.specs.AbstractValues.{AbstractValue, AreAlike}
use Rattle.memory_pages.specs.declared.held.Held.{Held}
use Rattle.memory_pages.specs.Slots.{HeldSlot, table, cell_of, with_cell}
use Rattle.memory_rules.specs.Frames.{FrameMem, Cell, joined}
use Rattle.memory_rules.specs.AbstractSets.{abstract_sets}
use Rattle.memory_model.specs.HeldFrames.{frame_of}

-- the frame of the join
abbrev pub join_of : List HeldSlot → List HeldSlot → FrameMem abstract_sets
join_of a b = joined abstract_sets (frame_of a) (frame_of b)

-- what a cell that is held is
abbrev pub seen : Held → Cell AbstractValue
seen cell = record { value = cell.value; u = cell.u; x = cell.x }

-- words of one size
abbrev pub SuitWords : Option Stride → Option Stride → Type 0
SuitWords a b = IfSome a (λ x. IfSome b (λ y. x.size ≡ y.size))

-- values that may be joined
abbrev pub SuitValues : Option AbstractValue → Option AbstractValue → Type 0
SuitValues a b = IfSome a (λ v. IfSome b (λ w. AreAlike v w))

-- the slot that keeps this cell, if there is one
abbrev pub with_held : HeldSlot → ℕ → Option Held → HeldSlot
with_held slot size None = slot
with_held slot size (Some cell) = with_cell slot size cell

-- the slots keep their cells by size, and nothing else
abbrev pub AreCanonical : List HeldSlot → Type 0
AreCanonical slots = map (λ slot. record { byte = slot.byte; cells = table (cell_of slot) }) slots ≡ slots
