-- Slots as the frame of an abstract memory.
--   is_cell_size size     whole bytes from 8 to 64 bits
--   byte_seen, cell_seen  what a byte and a cell that are held are
--   byte_held, cell_held  the byte and the cell, as they are held
--   byte_in, cell_in      the byte at a slot, and the cell of this size that begins there, if there is a slot
--   frame_of slots        the frame of these slots
use Rattle.std.specs.Prelude.{ℕ, Bool, List, Option, Some, None, ◌%◌, ◌==◌, ◌&&◌, nat_lt, nat_le, if◌then◌else◌, slice_get}
use Rattle.strided_rules.specs.Strides.{Stride}
use Rattle.pointer_rules.specs.AbstractValues.{AbstractValue}
use Rattle.memory_pages.specs.declared.byte.Byte.{Byte}
use Rattle.memory_pages.specs.declared.held.Held.{Held}
use Rattle.memory_pages.specs.Slots.{HeldSlot, cell_of}
use Rattle.memory_rules.specs.Frames.{AbstractByte, Cell, FrameMem, no_byte}
use Rattle.memory_rules.specs.AbstractSets.{abstract_sets}

-- whole bytes from 8 to 64 bits
abbrev pub is_cell_size : ℕ → Bool
is_cell_size size = (size % 8 == 0) && (nat_lt 0 size && nat_le size 64)

abbrev pub byte_seen : Byte → AbstractByte Stride
byte_seen byte = record { value = byte.value; u = byte.u; p = byte.p }

abbrev pub byte_held : AbstractByte Stride → Byte
byte_held byte = record { value = byte.value; u = byte.u; p = byte.p }

abbrev pub cell_seen : Option Held → Option (Cell AbstractValue)
cell_seen None = None
cell_seen (Some cell) = Some (record { value = cell.value; u = cell.u; x = cell.x })

abbrev pub cell_held : Option (Cell AbstractValue) → Option Held
cell_held None = None
cell_held (Some cell) = Some (record { value = cell.value; u = cell.u; x = cell.x })

-- the byte at a slot
abbrev pub byte_in : Option HeldSlot → AbstractByte Stride
byte_in None = no_byte
byte_in (Some slot) = byte_seen slot.byte

-- the cell that begins there
abbrev pub cell_in : Option HeldSlot → ℕ → Option (Cell AbstractValue)
cell_in None size = None
cell_in (Some slot) size = if is_cell_size size then cell_seen (cell_of slot size) else None

-- the frame of these slots
abbrev pub frame_of : List HeldSlot → FrameMem abstract_sets
frame_of slots = record {
  bytes = λ byte. byte_in (slice_get slots byte);
  cells = λ offset size. cell_in (slice_get slots offset) size;
}
