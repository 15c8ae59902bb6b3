-- What a slot holds: one byte of a frame, and the cells that begin at it.
--   IsCellSize size              whole bytes from 8 to 64 bits
--   SizedCell                    a cell and its size in bits
--   HeldSlot                     the byte, and at place k the cell of 8 * k bits, if it is kept
--   cell_of slot size            the cell of this size, if it is kept
--   table cells                  these cells by size
--   slot_of byte kept            the slot of a byte and a list of cells with their sizes
--   bare byte                    no cell is kept
--   with_byte, with_cell         the byte, or the cell of this size, is this one
--   without_wider slot than      the cells of more bits are not kept
--   with_wider_marked slot than  the cells of more bits have x
use Rattle.std.specs.Prelude.{◌≡◌, ℕ, true, List, [], ◌∷◌, map, Option, Some, None, ◌<◌, ◌≤◌, ◌/◌, ◌%◌, ◌==◌, nat_lt, if◌then◌else◌, slice_get}
use Rattle.memory_pages.specs.declared.byte.Byte.{Byte}
use Rattle.memory_pages.specs.declared.held.Held.{Held}

-- the size of a cell
abbrev pub IsCellSize : ℕ → Type 0
IsCellSize size = (0 < size / 8) × (size % 8 ≡ 0) × (size ≤ 64)

-- a cell and its size
pub record SizedCell : Type 0 where
  pub size : ℕ
  pub cell : Held

pub record HeldSlot : Type 0 where
  pub byte : Byte
  pub cells : List (Option Held)

abbrev pub flat_cell : Option (Option Held) → Option Held
flat_cell None = None
flat_cell (Some cell) = cell

-- the cell of this size
abbrev pub cell_of : HeldSlot → ℕ → Option Held
cell_of slot size = if size % 8 == 0 then flat_cell (slice_get slot.cells (size / 8)) else None

-- these cells, by size
abbrev pub table : (ℕ → Option Held) → List (Option Held)
table cells = None ∷ map cells (8 ∷ 16 ∷ 24 ∷ 32 ∷ 40 ∷ 48 ∷ 56 ∷ 64 ∷ [])

-- the cell of this size among those with their sizes
abbrev pub kept_in : List SizedCell → ℕ → Option Held
kept_in [] size = None
kept_in (kept ∷ others) size = if kept.size == size then Some kept.cell else kept_in others size

abbrev pub slot_of : Byte → List SizedCell → HeldSlot
slot_of byte kept = record { byte = byte; cells = table (kept_in kept) }

-- no cell is kept
abbrev pub bare : Byte → HeldSlot
bare byte = record { byte = byte; cells = table (λ size. None) }

abbrev pub with_byte : HeldSlot → Byte → HeldSlot
with_byte slot byte = record { byte = byte; cells = slot.cells }

abbrev pub with_cell : HeldSlot → ℕ → Held → HeldSlot
with_cell slot size cell = record { byte = slot.byte; cells = table (λ width. if width == size then Some cell else cell_of slot width) }

-- the cells of more bits are not kept
abbrev pub without_wider : HeldSlot → ℕ → HeldSlot
without_wider slot than = record { byte = slot.byte; cells = table (λ width. if nat_lt than width then None else cell_of slot width) }

-- a kept cell has x
abbrev pub marked : Option Held → Option Held
marked None = None
marked (Some cell) = Some (record { value = cell.value; u = cell.u; x = true })

-- the cells of more bits have x
abbrev pub with_wider_marked : HeldSlot → ℕ → HeldSlot
with_wider_marked slot than = record { byte = slot.byte; cells = table (λ width. if nat_lt than width then marked (cell_of slot width) else cell_of slot width) }

-- the same of a list of cells with their sizes
abbrev pub marked_kept : ℕ → SizedCell → SizedCell
marked_kept than kept = if nat_lt than kept.size then record { size = kept.size; cell = record { value = kept.cell.value; u = kept.cell.u; x = true } } else kept
