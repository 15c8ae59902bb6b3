-- The parts that stand for a memory.
--   slots_of count f    so many slots with the bytes and cells of the frame f
--   frames_from f n rows   for each row, from number n on, the slots of its frame
--   made checked m      the parts of this program with the flags, bytes and cells of the memory
use Rattle.std.specs.Prelude.{ℕ, suc, List, [], ◌∷◌, map}
use Rattle.alf_ops.specs.declared.history.FrameShape.{FrameShape}
use Rattle.alf_ops.specs.Histories.{offsets}
use Rattle.alf_check.specs.CheckedPrograms.{CheckedParts}
use Rattle.memory_pages.specs.Slots.{HeldSlot, table}
use Rattle.memory_rules.specs.Frames.{FrameMem}
use Rattle.memory_rules.specs.Memories.{Mem}
use Rattle.memory_rules.specs.AbstractSets.{abstract_sets}
use Rattle.memory_model.specs.HeldFrames.{byte_held, cell_held}
use Rattle.memory_model.specs.KeptMemories.{MemoryParts, rows_of, functions_of, bytes_in}

-- the slot with the byte and the cells of the frame at this place
abbrev pub slot_at : FrameMem abstract_sets → ℕ → HeldSlot
slot_at f place = record {
  byte = byte_held (f.bytes place);
  cells = table (λ size. cell_held (f.cells place size));
}

-- so many of them
abbrev pub slots_of : ℕ → FrameMem abstract_sets → List HeldSlot
slots_of count f = map (slot_at f) (offsets 0 count)

-- for each row the slots of its frame
abbrev pub frames_from : (ℕ → FrameMem abstract_sets) → ℕ → List FrameShape → List (List HeldSlot)
frames_from f n [] = []
frames_from f n (row ∷ rows) = slots_of (bytes_in row) (f n) ∷ frames_from f (suc n) rows

-- the parts of this program with the flags, bytes and cells of the memory
abbrev pub made : CheckedParts → Mem abstract_sets → MemoryParts
made checked m = record {
  checked = checked;
  running = map m.runs (offsets 0 (functions_of checked));
  frames = frames_from m.frames 0 (rows_of checked);
}
