-- Cells of frames, and frames of which one or several were changed.
--   IsCellOf rows frame offset size   the cell lies in its frame, by the rows of frames
--   Fits lengths size cell            the same, by how many bytes the frames have
--   AllFit lengths size cells         each of the cells does
--   AreSized frames                   the values in the frames have their sizes
--   Loads rows m at size loaded       a load through the address gives this value, of this size, and these faults
--   Changes old new f                 the frames become what f makes of the memory, and keep their bytes' number, the order of cells, and sizes
use Rattle.std.specs.Prelude.{◌≡◌, ◌↔◌, ◌<◌, ◌≤◌, ◌+◌, ◌/◌, ℕ, IfSome, Bool, true, List, [], ◌∷◌, map, length, Option, Some, None, slice_get}
use Rattle.alf_ops.specs.declared.history.RunFault.{RunFault}
use Rattle.alf_ops.specs.declared.history.FrameShape.{FrameShape}
use Rattle.alf_ops.specs.Histories.{fits_in}
use Rattle.domain_core.specs.declared.fault_set.FaultSet.{FaultSet}
use Rattle.domain_core.specs.FaultSets.{has_fault}
use Rattle.pointer_rules.specs.AbstractValues.{AbstractValue}
use Rattle.pointer_rules.specs.Covering.{IsValue}
use Rattle.memory_pages.specs.Pages.{list_or}
use Rattle.memory_pages.specs.Slots.{HeldSlot}
use Rattle.memory_rules.specs.AbstractSets.{abstract_sets}
use Rattle.memory_rules.specs.Covers.{FrameSized}
use Rattle.memory_rules.specs.Memories.{Mem, joined_values}
use Rattle.memory_rules.specs.Addresses.{load_at, IsLoadFault}
use Rattle.memory_model.specs.HeldFrames.{frame_of}
use Rattle.memory_model.specs.HeldMemories.{memory_of}
use Rattle.memory_model.specs.KeptMemories.{canonical}

-- the cell lies in its frame
pub record IsCellOf (rows : List FrameShape) (frame offset size : ℕ) : Type 0 where
  pub row : FrameShape
  pub found : slice_get rows frame ≡ Some row
  pub fits : fits_in row.bits offset size ≡ true

-- how many bytes there are
abbrev pub count_or : Option ℕ → ℕ
count_or None = 0
count_or (Some count) = count

-- the same, by how many bytes the frames have
pub record Fits (lengths : List ℕ) (size : ℕ) (cell : ℕ × ℕ) : Type 0 where
  pub frame : cell.0 < length lengths
  pub end : cell.1 + size / 8 ≤ count_or (slice_get lengths cell.0)

-- each of the cells does
abbrev pub AllFit : List ℕ → ℕ → List (ℕ × ℕ) → Type 0
AllFit lengths size [] = Unit {0}
AllFit lengths size (cell ∷ cells) = Fits lengths size cell × AllFit lengths size cells

-- the values in the frames have their sizes
abbrev pub AreSized : List (List HeldSlot) → Type 0
AreSized frames = (frame : ℕ) → FrameSized abstract_sets (frame_of (list_or (slice_get frames frame)))

-- a load through the address gives this
pub record Loads (rows : List FrameShape) (m : Mem abstract_sets) (at : AbstractValue) (size : ℕ)
    (loaded : Option AbstractValue × FaultSet) : Type 0 where
  pub value : loaded.0 ≡ joined_values abstract_sets None (load_at rows m at size)
  pub sized : IfSome loaded.0 (IsValue size)
  pub faults : (fault : RunFault) → (has_fault loaded.1 fault ≡ true) ↔ IsLoadFault rows m at size fault

-- the frames become what f makes of the memory
pub record Changes (old new : List (List HeldSlot)) (f : Mem abstract_sets → Mem abstract_sets) : Type 0 where
  pub memory : (running : List Bool) → memory_of running new ≡ f (memory_of running old)
  pub lengths : map length new ≡ map length old
  pub canonical : map (map canonical) old ≡ old → map (map canonical) new ≡ new
  pub sized : AreSized old → AreSized new
