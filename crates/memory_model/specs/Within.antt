-- Memories that hold nothing outside the frames of a program.
--   bytes_at row             how many bytes a frame of this row has, if there is one
--   IsFrameWithin count f    nothing is held past so many bytes, and cells have the sizes of cells
--   IsWithin count rows m    no function from this number on runs, and no frame holds anything outside its bytes
use Rattle.std.specs.Prelude.{◌≡◌, ◌≤◌, ℕ, false, List, Option, Some, None, slice_get}
use Rattle.alf_ops.specs.declared.history.FrameShape.{FrameShape}
use Rattle.memory_rules.specs.Frames.{FrameMem, no_byte}
use Rattle.memory_rules.specs.Memories.{Mem}
use Rattle.memory_rules.specs.AbstractSets.{abstract_sets}
use Rattle.memory_model.specs.HeldFrames.{is_cell_size}
use Rattle.memory_model.specs.KeptMemories.{bytes_in}

-- how many bytes a frame of this row has
abbrev pub bytes_at : Option FrameShape → ℕ
bytes_at None = 0
bytes_at (Some row) = bytes_in row

-- nothing is held past so many bytes, and cells have the sizes of cells
pub record IsFrameWithin (count : ℕ) (f : FrameMem abstract_sets) : Type 0 where
  pub bytes : (byte : ℕ) → count ≤ byte → f.bytes byte ≡ no_byte
  pub cells : (offset size : ℕ) → count ≤ offset → f.cells offset size ≡ None
  pub sizes : (offset size : ℕ) → is_cell_size size ≡ false → f.cells offset size ≡ None

-- no function from this number on runs, and no frame holds anything outside its bytes
pub record IsWithin (count : ℕ) (rows : List FrameShape) (m : Mem abstract_sets) : Type 0 where
  pub runs : (function : ℕ) → count ≤ function → m.runs function ≡ false
  pub frames : (frame : ℕ) → IsFrameWithin (bytes_at (slice_get rows frame)) (m.frames frame)
