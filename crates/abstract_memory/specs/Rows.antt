-- Frames of rows.
--   shape_of row           the frame of this row as runs take it
--   IsSlots bits slots     slots of a frame of so many bits: there is one for each byte, they keep cells by size, and the values have their sizes
--   AreFrames rows frames  for each row the slots of its frame
use Rattle.std.specs.Prelude.{◌≡◌, ℕ, List, [], ◌∷◌, length, map, ◌/◌}
use Rattle.alf_ops.specs.declared.history.FrameShape.{FrameShape}
use Rattle.alf_check.specs.declared.rows.FrameRow.{FrameRow}
use Rattle.memory_pages.specs.Slots.{HeldSlot}
use Rattle.memory_rules.specs.AbstractSets.{abstract_sets}
use Rattle.memory_rules.specs.Covers.{FrameSized}
use Rattle.memory_model.specs.HeldFrames.{frame_of}
use Rattle.memory_model.specs.KeptMemories.{canonical}

-- the frame of this row as runs take it
abbrev pub shape_of : FrameRow → FrameShape
shape_of row = record { owner = row.owner; bits = row.bits }

-- slots of a frame of so many bits
pub record IsSlots (bits : ℕ) (slots : List HeldSlot) : Type 0 where
  pub count : length slots ≡ bits / 8
  pub canonical : map canonical slots ≡ slots
  pub sized : FrameSized abstract_sets (frame_of slots)

-- for each row the slots of its frame
abbrev pub AreFrames : List FrameRow → List (List HeldSlot) → Type 0
AreFrames [] [] = Unit {0}
AreFrames [] (slots ∷ frames) = ⊥
AreFrames (row ∷ rows) [] = ⊥
AreFrames (row ∷ rows) (slots ∷ frames) = IsSlots row.bits slots × AreFrames rows frames
