-- The faults of an abstract address.
--   fault_set faults                    the set of these faults
--   greatest_offset offsets             the greatest of the offsets
--   word_fault words                    a word is no address
--   place_fault row runs offsets size   an inactive frame is dead; an offset past the last at which the cell
--       fits is out of bounds
--   address_faults rows runs at size    those of all alternatives
use Rattle.std.specs.Prelude.{ℕ, Bool, List, [], ◌∷◌, Option, Some, None, unsigned_abs, if◌then◌else◌, slice_get}
use Rattle.alf_ops.specs.declared.history.RunFault.{RunFault}
use Rattle.alf_ops.specs.declared.history.RunFault.TheVariants.{Kind, Dead, Bounds}
use Rattle.alf_ops.specs.declared.history.FrameShape.{FrameShape}
use Rattle.alf_ops.specs.Histories.{fits_in}
use Rattle.domain_core.specs.declared.fault_set.FaultSet.{FaultSet}
use Rattle.domain_core.specs.FaultSets.{no_faults, with_fault, either}
use Rattle.strided_rules.specs.Strides.{Stride}
use Rattle.strided_rules.specs.Members.{unsigned_greatest}
use Rattle.pointer_rules.specs.AbstractValues.{AbstractValue}
use Rattle.memory_rules.specs.Memories.{is_on}

-- the set of these faults
abbrev pub fault_set : List RunFault → FaultSet
fault_set [] = no_faults
fault_set (fault ∷ faults) = with_fault (fault_set faults) fault

-- the greatest of the offsets
abbrev pub greatest_offset : Stride → ℕ
greatest_offset offsets = unsigned_abs (unsigned_greatest offsets)

-- a word is no address
abbrev pub word_fault : Option Stride → FaultSet
word_fault None = no_faults
word_fault (Some words) = with_fault no_faults Kind

-- an inactive frame is dead, and nothing else; an offset that does not fit is out of bounds
abbrev pub place_fault : Option FrameShape → (ℕ → Bool) → Stride → ℕ → FaultSet
place_fault None runs offsets size = with_fault no_faults Dead
place_fault (Some row) runs offsets size =
    if is_on runs row.owner
    then (if fits_in row.bits (greatest_offset offsets) size then no_faults else with_fault no_faults Bounds)
    else with_fault no_faults Dead

abbrev pub place_faults : List FrameShape → (ℕ → Bool) → List (ℕ × Stride) → ℕ → FaultSet
place_faults rows runs [] size = no_faults
place_faults rows runs (place ∷ places) size = either (place_fault (slice_get rows place.0) runs place.1 size) (place_faults rows runs places size)

-- those of all alternatives
abbrev pub address_faults : List FrameShape → (ℕ → Bool) → AbstractValue → ℕ → FaultSet
address_faults rows runs at size = either (word_fault at.words) (place_faults rows runs at.places size)
