-- Memories without what lies outside the frames of a program.
--   clip_frame count f      the frame without what lies past so many bytes
--   clipped count rows m    the memory without what lies outside the frames, and without functions from this number on
use Rattle.std.specs.Prelude.{nat_lt, ◌&&◌, slice_get, if◌then◌else◌}
use Rattle.std.proofs.Common.{ℕ, false, List, None}
use Rattle.alf_ops.specs.declared.history.FrameShape.{FrameShape}
use Rattle.alf_ops.specs.declared.history.RunEvent.{RunEvent}
use Rattle.memory_rules.specs.Frames.{FrameMem, no_byte}
use Rattle.memory_rules.specs.Memories.{Mem}
use Rattle.memory_rules.specs.AbstractSets.{abstract_sets}
use Rattle.memory_model.specs.HeldFrames.{is_cell_size}
use Rattle.memory_model.specs.Within.{bytes_at}
use Rattle.transfer_rules.specs.Inside.{IsInside}

-- the frame without what lies past so many bytes
abbrev pub clip_frame : ℕ → FrameMem abstract_sets → FrameMem abstract_sets
clip_frame count f = record {
  bytes = λ byte. if nat_lt byte count then f.bytes byte else no_byte;
  cells = λ offset size. if nat_lt offset count && is_cell_size size then f.cells offset size else None;
}

-- the memory without what lies outside the frames
abbrev pub clipped : ℕ → List FrameShape → Mem abstract_sets → Mem abstract_sets
clipped count rows m = record {
  runs = λ function. if nat_lt function count then m.runs function else false;
  frames = λ frame. clip_frame (bytes_at (slice_get rows frame)) (m.frames frame);
}
