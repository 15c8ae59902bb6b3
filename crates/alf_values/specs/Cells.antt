-- The frames and the functions that are kept, and what they are seen as.
--   mark_of functions owner        the mark of what the frames of this owner hold
--   running_of functions           of each function whether it is running
--   held_frame functions frame     what a frame is seen as
--   memory_of frames functions     what the memory is seen as
--   IsKeptFrame, AreKept           each frame has a slot for each byte, with no mark past its owner's
--   tested frames running at size  the cell at an address, or its fault
--   loaded                         what a load gives, by the test of its address
--   slots_at frames number         the slots of a frame
--   shapes_in frames               the frames' owners and sizes
--   IsFilled frames number shape slots   the frame has this shape and these slots
--   parts_of, blank_parts, idle    frames that hold nothing, and functions that are not running
use Rattle.std.specs.Prelude.{◌≡◌, ℕ, Bool, false, List, [], length, map, replicate, Option, Some, None, Result, Ok, Err, slice_get, ◌/◌, ◌≤◌, if◌then◌else◌}
use Rattle.alf_ops.specs.declared.history.Value.{Value}
use Rattle.alf_ops.specs.declared.history.Value.TheVariants.{Int, Ptr}
use Rattle.alf_ops.specs.declared.history.RunFault.{RunFault}
use Rattle.alf_ops.specs.declared.history.RunFault.TheVariants.{Bounds, Dead, Kind}
use Rattle.alf_ops.specs.declared.history.FrameShape.{FrameShape}
use Rattle.alf_ops.specs.Histories.{fits_in}
use Rattle.alf_check.specs.declared.rows.FrameRow.{FrameRow}
use Rattle.alf_values.specs.declared.slots.Slot.{Slot}
use Rattle.alf_values.specs.declared.cells.Frame.{Frame}
use Rattle.alf_values.specs.declared.cells.Activity.{Activity}
use Rattle.alf_values.specs.declared.cells.Cell.{Cell}
use Rattle.alf_values.specs.Contents.{cell_held}
use Rattle.alf_values.specs.Slots.{live, held, blank}
use Rattle.alf_values.specs.Memories.{HeldFrame, RunMemory, is_live}

-- ---- what is seen

abbrev pub mark_or : Option Activity → ℕ
mark_or None = 1
mark_or (Some activity) = activity.mark

-- the mark of what the frames of this owner hold
abbrev pub mark_of : List Activity → Option ℕ → ℕ
mark_of functions None = 1
mark_of functions (Some function) = mark_or (slice_get functions function)

-- of each function whether it is running
abbrev pub running_of : List Activity → List Bool
running_of functions = map (λ activity. activity.runs) functions

-- what a frame is seen as: its bytes are what its slots with its owner's mark hold
abbrev pub held_frame : List Activity → Frame → HeldFrame
held_frame functions frame = record { shape = frame.shape; bytes = map (live (mark_of functions frame.shape.owner)) frame.slots.items }

-- what the memory is seen as
abbrev pub memory_of : List Frame → List Activity → RunMemory
memory_of frames functions = record { frames = map (held_frame functions) frames; running = running_of functions }

-- a frame has a slot for each byte, with no mark past its owner's
pub record IsKeptFrame (mark : ℕ) (frame : Frame) : Type 0 where
  pub sized : length frame.slots.items ≡ frame.shape.bits / 8
  pub older : (byte : ℕ) (slot : Slot) → slice_get frame.slots.items byte ≡ Some slot → slot.mark ≤ mark

-- each frame does
abbrev pub AreKept : List Frame → List Activity → Type 0
AreKept frames functions = (number : ℕ) (frame : Frame) → slice_get frames number ≡ Some frame → IsKeptFrame (mark_of functions frame.shape.owner) frame

-- ---- loads and stores

abbrev pub tested_in : Option Frame → List Bool → ℕ → ℕ → ℕ → Result Cell RunFault
tested_in None running number offset size = Err Dead
tested_in (Some frame) running number offset size =
    if is_live running frame.shape.owner
    then (if fits_in frame.shape.bits offset size then Ok (record { frame = number; owner = frame.shape.owner; offset = offset }) else Err Bounds)
    else Err Dead

-- the cell at an address, or its fault
abbrev pub tested : List Frame → List Bool → Value → ℕ → Result Cell RunFault
tested frames running (Int size bits) width = Err Kind
tested frames running (Ptr number offset) width = tested_in (slice_get frames number) running number offset width

abbrev pub slots_or : Option Frame → List Slot
slots_or None = []
slots_or (Some frame) = frame.slots.items

-- the slots of a frame
abbrev pub slots_at : List Frame → ℕ → List Slot
slots_at frames number = slots_or (slice_get frames number)

-- what a load gives, by the test of its address
abbrev pub loaded : List Frame → List Activity → ℕ → Result Cell RunFault → Result Value RunFault
loaded frames functions size (Err fault) = Err fault
loaded frames functions size (Ok cell) = cell_held (held (slots_at frames cell.frame) (mark_of functions cell.owner)) cell.offset size

-- the frames' owners and sizes
abbrev pub shapes_in : List Frame → List FrameShape
shapes_in frames = map (λ frame. frame.shape) frames

-- the frame has this shape and these slots
pub record IsFilled (frames : List Frame) (number : ℕ) (shape : FrameShape) (slots : List Slot) : Type 0 where
  pub frame : Frame
  pub known : slice_get frames number ≡ Some frame
  pub shape_is : frame.shape ≡ shape
  pub slots_are : frame.slots.items ≡ slots

-- ---- nothing was stored

-- the shape of a frame, and its slots
abbrev pub parts_of : Frame → FrameShape × List Slot
parts_of frame = (frame.shape, frame.slots.items)

-- those of a frame that holds nothing
abbrev pub blank_parts : FrameRow → FrameShape × List Slot
blank_parts row = (record { owner = row.owner; bits = row.bits }, replicate (row.bits / 8) blank)

-- a function that is not running
abbrev pub idle : Activity
idle = record { runs = false; mark = 1 }
