-- Frames that are changed place by place.
--   known value                   the cell of this value, where every byte has its store
--   lone_slot at size value       the slot that a strong store leaves at byte number `at` of its cell
--   mixed_slot slot at size cell value   the slot that a weak store makes of this one there, where the cell becomes this one
--   at_place place after m        the frame m, where what begins at the place is that of the frame after
--   below place after m           where what begins before the place is that of the frame after
--   with_place m place byte cells the frame m with this byte and these cells at the place
--   weakly m offset size cell value   the frame m after a weak store where the cell becomes this one
--   IsMixedAt old slots place at size cell value   the slot at the place was mixed so
--   wider others than cells       cells by size, where others is done to those of more bits
--   HasLone slot size value byte  the slot has this byte, and the one cell that begins there is known to hold the value
--   IsStored slots place size value byte   so does the slot at the place
--   AreCanonical slots            each slot keeps its cells by their size, and no more
--   Becomes old slots m           the slots are as many, keep cells as before, and stand for the frame m
use Rattle.std.specs.Prelude.{◌≡◌, ◌≢◌, ℕ, true, false, None, List, length, map, Option, Some, ◌==◌, nat_lt, ◌-◌, if◌then◌else◌, slice_get, slice_set}
use Rattle.strided_rules.specs.Strides.{Stride}
use Rattle.pointer_rules.specs.AbstractValues.{AbstractValue}
use Rattle.memory_pages.specs.declared.byte.Byte.{Byte}
use Rattle.memory_pages.specs.declared.held.Held.{Held}
use Rattle.memory_pages.specs.Slots.{HeldSlot, table, cell_of, bare, with_byte, with_cell, with_wider_marked}
use Rattle.memory_rules.specs.Frames.{AbstractByte, Cell, FrameMem, new_byte, weak_byte, with_x}
use Rattle.memory_rules.specs.AbstractSets.{abstract_sets}
use Rattle.memory_model.specs.HeldFrames.{is_cell_size, byte_held, byte_seen, frame_of}
use Rattle.memory_model.specs.SlotStores.{CellChange, stored_frame}

-- the cell of this value, where every byte has its store
abbrev pub known : AbstractValue → Held
known value = record { value = Some value; u = false; x = false }

abbrev pub known_seen : AbstractValue → Cell AbstractValue
known_seen value = record { value = Some value; u = false; x = false }

-- the slot of a byte of the value, and at the first byte the cell
abbrev pub lone_slot : ℕ → ℕ → AbstractValue → HeldSlot
lone_slot at size value =
    if at == 0 then with_cell (bare (byte_held (new_byte abstract_sets value at))) size (known value) else bare (byte_held (new_byte abstract_sets value at))

-- each cell has x, and the byte is joined with that of the value
abbrev pub mixed : HeldSlot → ℕ → AbstractValue → HeldSlot
mixed slot at value = with_byte (with_wider_marked slot 0) (byte_held (weak_byte abstract_sets (byte_seen slot.byte) (new_byte abstract_sets value at)))

-- and at the first byte there is the cell
abbrev pub mixed_slot : HeldSlot → ℕ → ℕ → Held → AbstractValue → HeldSlot
mixed_slot slot at size cell value = if at == 0 then with_cell (mixed slot at value) size cell else mixed slot at value

-- cells that begin at one place, by size
abbrev pub CellsBySize : Type 0
CellsBySize = ℕ → Option (Cell AbstractValue)

-- what begins at the place is that of the frame after
abbrev pub at_place : ℕ → FrameMem abstract_sets → FrameMem abstract_sets → FrameMem abstract_sets
at_place place after m = record {
  bytes = λ b. if b == place then after.bytes b else m.bytes b;
  cells = λ p width. if p == place then after.cells p width else m.cells p width;
}

-- what begins before the place is that of the frame after
abbrev pub below : ℕ → FrameMem abstract_sets → FrameMem abstract_sets → FrameMem abstract_sets
below place after m = record {
  bytes = λ b. if nat_lt b place then after.bytes b else m.bytes b;
  cells = λ p width. if nat_lt p place then after.cells p width else m.cells p width;
}

-- with this byte and these cells at the place
abbrev pub with_place : FrameMem abstract_sets → ℕ → AbstractByte Stride → CellsBySize → FrameMem abstract_sets
with_place m place byte cells = at_place place (record { bytes = λ b. byte; cells = λ p width. cells width }) m

-- others is done to the cells of more bits
abbrev pub wider : CellChange → ℕ → CellsBySize → CellsBySize
wider others than cells width = if nat_lt than width then others (cells width) else cells width

-- the slot with its cells by their size, and no more
abbrev pub canonical : HeldSlot → HeldSlot
canonical slot = record { byte = slot.byte; cells = table (cell_of slot) }

-- each slot keeps its cells so
abbrev pub AreCanonical : List HeldSlot → Type 0
AreCanonical slots = map canonical slots ≡ slots

-- the slot has this byte, and the one cell that begins there is known to hold the value
pub record HasLone (slot : HeldSlot) (size : ℕ) (value : AbstractValue) (byte : Byte) : Type 0 where
  pub same_byte : slot.byte ≡ byte
  pub cell : cell_of slot size ≡ Some (known value)
  pub others : (width : ℕ) → is_cell_size width ≡ true → width ≢ size → cell_of slot width ≡ None

-- so does the slot at the place
pub record IsStored (slots : List HeldSlot) (place size : ℕ) (value : AbstractValue) (byte : Byte) : Type 0 where
  pub slot : HeldSlot
  pub there : slice_get slots place ≡ Some slot
  pub lone : HasLone slot size value byte

-- the slots stand for the frame m
pub record Becomes (old slots : List HeldSlot) (m : FrameMem abstract_sets) : Type 0 where
  pub frame : frame_of slots ≡ m
  pub length : length slots ≡ length old
  pub canonical : AreCanonical old → AreCanonical slots

-- after a weak store where the cell becomes this one
abbrev pub weakly : FrameMem abstract_sets → ℕ → ℕ → Cell AbstractValue → AbstractValue → FrameMem abstract_sets
weakly m offset size cell value =
    stored_frame m offset size cell (with_x abstract_sets) (λ b old. weak_byte abstract_sets old (new_byte abstract_sets value (b - offset)))

-- the slot at the place was mixed
pub record IsMixedAt (old slots : List HeldSlot) (place at size : ℕ) (cell : Held)
    (value : AbstractValue) : Type 0 where
  pub slot : HeldSlot
  pub there : slice_get old place ≡ Some slot
  pub put : slots ≡ slice_set old place (mixed_slot slot at size cell value)
