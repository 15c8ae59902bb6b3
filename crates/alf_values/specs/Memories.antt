-- What the memory of a run is seen as.
--   HeldFrame             a frame: its owner and its size, and what each of its bytes holds
--   RunMemory             the memory: its frames, and of each function whether it is running
--   shapes memory         the table of the frames' owners and sizes
--   is_live memory owner  the frames of this owner are active: they are global, or its function is running
--   byte_in bytes byte    what a byte holds
--   IsMadeFor program memory   the memory has the frames and the functions of the program
use Rattle.std.specs.Prelude.{◌≡◌, ℕ, Bool, true, false, List, length, map, Option, Some, None, slice_get}
use Rattle.alf_ops.specs.declared.history.FrameShape.{FrameShape}
use Rattle.alf_check.specs.CheckedPrograms.{NumberedProgram}
use Rattle.alf_check.specs.Shapes.{shapes_of}
use Rattle.alf_values.specs.declared.bytes.Content.{Content}

-- a frame: its owner and its size, and what each of its bytes holds
pub record HeldFrame : Type 0 where
  pub shape : FrameShape
  pub bytes : List (Option Content)

-- the memory of a run: its frames, and of each function whether it is running
pub record RunMemory : Type 0 where
  pub frames : List HeldFrame
  pub running : List Bool

-- the table of the frames' owners and sizes
abbrev pub shapes : RunMemory → List FrameShape
shapes memory = map (λ frame. frame.shape) memory.frames

abbrev pub true_or : Option Bool → Bool
true_or None = false
true_or (Some runs) = runs

-- the frames of this owner are active: they are global, or its function is running
abbrev pub is_live : List Bool → Option ℕ → Bool
is_live running None = true
is_live running (Some function) = true_or (slice_get running function)

abbrev pub content_or : Option (Option Content) → Option Content
content_or None = None
content_or (Some content) = content

-- what a byte holds
abbrev pub byte_in : List (Option Content) → ℕ → Option Content
byte_in bytes byte = content_or (slice_get bytes byte)

-- the memory has the frames and the functions of the program
pub record IsMadeFor (program : NumberedProgram) (memory : RunMemory) : Type 0 where
  pub shapes_are : shapes memory ≡ shapes_of program.frames
  pub functions_are : length memory.running ≡ length program.funcs
