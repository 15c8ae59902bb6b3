-- Frames that hold nothing.
--   blank_frame row  the slots of a frame of this row that holds nothing
use Rattle.std.specs.Prelude.{List, ◌/◌}
use Rattle.alf_check.specs.declared.rows.FrameRow.{FrameRow}
use Rattle.memory_pages.specs.Slots.{HeldSlot}
use Rattle.memory_model.specs.HeldMemories.{blank_slots}

-- the slots of a frame of this row that holds nothing
abbrev pub blank_frame : FrameRow → List HeldSlot
blank_frame row = blank_slots (row.bits / 8)
