-- Faults of the alternatives of an address.
--   IsWordFault words fault                    the fault of some word
--   IsBoundsFault x bits size fault            of some offset at which the cell does not fit a frame of so many bits
--   IsPlaceFault found runs place size fault   of some pointer into the frame of this row
--   IsFaultOf rows runs places size fault      of some pointer into one of the frames
use Rattle.std.specs.Prelude.{◌≡◌, ◌⊎◌, ℕ, Bool, false, List, [], ◌∷◌, Option, Some, None, Err, slice_get}
use Rattle.alf_ops.specs.declared.history.RunFault.{RunFault}
use Rattle.alf_ops.specs.declared.history.RunFault.TheVariants.{Kind, Bounds}
use Rattle.alf_ops.specs.declared.history.FrameShape.{FrameShape}
use Rattle.alf_ops.specs.Histories.{fits_in}
use Rattle.strided_rules.specs.Strides.{Stride, Covers}
use Rattle.memory_rules.specs.Addresses.{tested_in}

-- the fault of some word
abbrev pub IsWordFault : Option Stride → RunFault → Type 0
IsWordFault None fault = ⊥
IsWordFault (Some words) fault = Kind ≡ fault

-- the fault of some offset at which the cell does not fit
abbrev pub IsBoundsFault : Stride → ℕ → ℕ → RunFault → Type 0
IsBoundsFault x bits size fault = (Bounds ≡ fault) × ((offset : ℕ) × Covers x offset × (fits_in bits offset size ≡ false))

-- the fault of some pointer into the frame of this row
abbrev pub IsPlaceFault : Option FrameShape → (ℕ → Bool) → ℕ × Stride → ℕ → RunFault → Type 0
IsPlaceFault found runs place size fault = (offset : ℕ) × Covers place.1 offset × (tested_in found runs place.0 offset size ≡ Err fault)

-- the fault of some pointer into one of the frames
abbrev pub IsFaultOf : List FrameShape → (ℕ → Bool) → List (ℕ × Stride) → ℕ → RunFault → Type 0
IsFaultOf rows runs [] size fault = ⊥
IsFaultOf rows runs (place ∷ places) size fault = IsPlaceFault (slice_get rows place.0) runs place size fault ⊎ IsFaultOf rows runs places size fault
