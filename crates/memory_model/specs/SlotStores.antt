-- What a store makes of the slots of a frame.
--   stored_frame m offset size new others byte   the frame m after a store where the cell becomes new, others is done to the cells that share a byte with it, and byte to its bytes
--   slot_stored offset size new others byte place slot   the slot at this place after it
--   changed f at slots      each slot changed by its place, from this one on
--   SlotsStored             the frame of slots that were changed so is the frame after the store
--   StrongIsStored, WeakIsStored, PinIsStored   strong and weak stores and pins are such stores
use Rattle.std.specs.Prelude.{◌≡◌, ℕ, suc, true, false, List, [], ◌∷◌, length, Option, Some, None, ◌+◌, ◌-◌, ◌/◌, ◌≤◌, if◌then◌else◌}
use Rattle.alf_ops.specs.Histories.{is_byte_of}
use Rattle.strided_rules.specs.Strides.{Stride}
use Rattle.pointer_rules.specs.AbstractValues.{AbstractValue}
use Rattle.memory_pages.specs.Slots.{HeldSlot, table, cell_of}
use Rattle.memory_rules.specs.Frames.{AbstractByte, Cell, FrameMem, is_same, pinned, share_byte, stands, strong, weak, weak_byte, weak_cell, with_x, new_byte}
use Rattle.memory_rules.specs.AbstractSets.{abstract_sets}
use Rattle.memory_model.specs.HeldFrames.{is_cell_size, byte_seen, byte_held, cell_seen, cell_held, frame_of}

-- what is done to cells, and to the byte at an offset
abbrev pub CellChange : Type 0
CellChange = Option (Cell AbstractValue) → Option (Cell AbstractValue)

abbrev pub ByteChange : Type 0
ByteChange = ℕ → AbstractByte Stride → AbstractByte Stride

-- the frame after a store
abbrev pub stored_frame : FrameMem abstract_sets → ℕ → ℕ → Cell AbstractValue → CellChange → ByteChange
    → FrameMem abstract_sets
stored_frame m offset size new others byte = record {
  bytes = λ b. if is_byte_of offset size b then byte b (m.bytes b) else m.bytes b;
  cells = λ place width. if is_same offset size place width then Some new else (if share_byte offset size place width then others (m.cells place width) else m.cells place width);
}

-- the cells of the slot after it
abbrev pub cell_stored : ℕ → ℕ → Cell AbstractValue → CellChange → ℕ → HeldSlot → ℕ → Option (Cell AbstractValue)
cell_stored offset size new others place slot width =
    if is_same offset size place width then Some new
    else (if share_byte offset size place width then others (cell_seen (cell_of slot width)) else cell_seen (cell_of slot width))

-- the slot after it
abbrev pub slot_stored : ℕ → ℕ → Cell AbstractValue → CellChange → ByteChange → ℕ → HeldSlot → HeldSlot
slot_stored offset size new others byte place slot = record {
  byte = if is_byte_of offset size place then byte_held (byte place (byte_seen slot.byte)) else slot.byte;
  cells = table (λ width. cell_held (cell_stored offset size new others place slot width));
}

-- each slot changed by its place
abbrev pub changed : (ℕ → HeldSlot → HeldSlot) → ℕ → List HeldSlot → List HeldSlot
changed f place [] = []
changed f place (slot ∷ slots) = f place slot ∷ changed f (suc place) slots

-- the frame of slots that were changed so is the frame after the store
abbrev pub SlotsStored : Type 0
SlotsStored = (slots : List HeldSlot) (offset size : ℕ) (new : Cell AbstractValue) (others : CellChange) (byte : ByteChange)
    → is_cell_size size ≡ true → offset + size / 8 ≤ length slots → others None ≡ None
    → frame_of (changed (slot_stored offset size new others byte) 0 slots) ≡ stored_frame (frame_of slots) offset size new others byte

-- a strong store is such a store: the cells that share a byte are dropped
abbrev pub StrongIsStored : Type 0
StrongIsStored = (m : FrameMem abstract_sets) (offset size : ℕ) (value : AbstractValue)
    → strong abstract_sets m offset size value
    ≡ stored_frame m offset size (record { value = Some value; u = false; x = false }) (λ cell. None) (λ b old. new_byte abstract_sets value (b - offset))

-- and so is a weak one: they get x
abbrev pub WeakIsStored : Type 0
WeakIsStored = (m : FrameMem abstract_sets) (offset size : ℕ) (value : AbstractValue)
    → weak abstract_sets m offset size value
    ≡ stored_frame m offset size (weak_cell abstract_sets (stands abstract_sets m offset size) value) (with_x abstract_sets)
    (λ b old. weak_byte abstract_sets old (new_byte abstract_sets value (b - offset)))

-- and so is a pin: other cells and the bytes stay
abbrev pub PinIsStored : Type 0
PinIsStored = (m : FrameMem abstract_sets) (offset size : ℕ) (value : AbstractValue)
    → pinned abstract_sets m offset size value
    ≡ stored_frame m offset size (record { value = Some value; u = false; x = false }) (λ cell. cell) (λ b old. old)
