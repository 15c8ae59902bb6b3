-- What the code of a memory keeps.
--   MemoryParts      the program, a flag for each function, and the slots of each frame
--   memory_in parts  the memory that they stand for
--   rows_of checked  the frames of the program as runs take them
--   bytes_in row     how many bytes a frame of this row has
--   canonical slot   the slot with its cells by size, and nothing else
--   IsMemory parts   there is a flag for each function and a frame for each row, with a slot for each byte that keeps its cells by size; the values have their sizes
use Rattle.std.specs.Prelude.{◌≡◌, ℕ, Bool, List, length, map, ◌/◌}
use Rattle.alf_ops.specs.declared.history.FrameShape.{FrameShape}
use Rattle.alf_check.specs.Shapes.{shapes_of}
use Rattle.alf_check.specs.CheckedPrograms.{CheckedParts, seen}
use Rattle.memory_pages.specs.Slots.{HeldSlot, table, cell_of}
use Rattle.memory_rules.specs.AbstractSets.{abstract_sets}
use Rattle.memory_rules.specs.Memories.{Mem, MemSized}
use Rattle.memory_model.specs.HeldMemories.{memory_of}

pub record MemoryParts : Type 0 where
  pub checked : CheckedParts
  pub running : List Bool
  pub frames : List (List HeldSlot)

-- the memory that they stand for
abbrev pub memory_in : MemoryParts → Mem abstract_sets
memory_in parts = memory_of parts.running parts.frames

-- the frames of the program as runs take them
abbrev pub rows_of : CheckedParts → List FrameShape
rows_of checked = shapes_of (seen checked).frames

-- how many functions it has
abbrev pub functions_of : CheckedParts → ℕ
functions_of checked = length (seen checked).funcs

-- how many bytes a frame of this row has
abbrev pub bytes_in : FrameShape → ℕ
bytes_in row = row.bits / 8

-- the slot with its cells by size, and nothing else
abbrev pub canonical : HeldSlot → HeldSlot
canonical slot = record { byte = slot.byte; cells = table (cell_of slot) }

pub record IsMemory (parts : MemoryParts) : Type 0 where
  -- a flag for each function, and a slot for each byte of each frame
  pub running : length parts.running ≡ functions_of parts.checked
  pub frames : map length parts.frames ≡ map bytes_in (rows_of parts.checked)
  -- cells stand by size, and nothing else does
  pub canonical : map (map canonical) parts.frames ≡ parts.frames
  -- 8 bits in a byte, the cell's in a cell
  pub sized : MemSized abstract_sets (memory_in parts)
