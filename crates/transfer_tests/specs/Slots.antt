-- The slots of a frame, as calls on one frame want them.
--   AreSlots count slots   so many, which keep cells by size, and values of their sizes
use Rattle.std.proofs.Common.{◌≡◌, ℕ, List, length}
use Rattle.pointer_rules.specs.AbstractValues.{AbstractValue}
use Rattle.memory_pages.specs.Slots.{HeldSlot}
use Rattle.memory_rules.specs.AbstractSets.{abstract_sets}
use Rattle.memory_rules.specs.Covers.{FrameSized}
use Rattle.memory_model.specs.HeldFrames.{frame_of}
use Rattle.frame_memory.specs.Places.{AreCanonical}

-- so many, which keep cells by size, and values of their sizes
pub record AreSlots (count : ℕ) (slots : List HeldSlot) : Type 0 where
  pub many : length slots ≡ count
  pub canonical : AreCanonical slots
  pub sized : FrameSized abstract_sets (frame_of slots)
