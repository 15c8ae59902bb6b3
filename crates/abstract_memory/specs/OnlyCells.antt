-- Addresses that mean one cell alone.
--   IsOnlyOffset offsets offset              the offsets are this one alone
--   IsOnlyPlace at place                     the address is the pointer to this frame and offset, and nothing else
--   IsOnlyCell rows runs at size cell        the cell alone is possible, and the address has no fault
--   pointer_to frame offset    and so of a pointer that is written so
use Rattle.std.proofs.Common.{◌≡◌, ℕ, Bool, List, [], ◌∷◌}
use Rattle.alf_ops.specs.declared.history.Value.TheVariants.{Ptr}
use Rattle.alf_ops.specs.declared.history.RunFault.{RunFault}
use Rattle.alf_ops.specs.declared.history.FrameShape.{FrameShape}
use Rattle.domain_core.specs.WordSets.{IsOnly}
use Rattle.strided_rules.specs.Strides.{Stride, one_word}
use Rattle.strided_rules.specs.Domains.{stride_sets}
use Rattle.pointer_rules.specs.AbstractValues.{AbstractValue, Places, alone}
use Rattle.memory_rules.specs.ValueSets.{OnlyCovers}
use Rattle.memory_rules.specs.AbstractSets.{abstract_sets}
use Rattle.memory_rules.specs.Addresses.{cells_of, IsAddressFault}

-- the offsets are this one alone
abbrev pub IsOnlyOffset : Stride → ℕ → Type 0
IsOnlyOffset offsets offset = IsOnly stride_sets offsets offset

-- the address is this pointer and nothing else
abbrev pub IsOnlyPlace : AbstractValue → ℕ × ℕ → Type 0
IsOnlyPlace at place = OnlyCovers abstract_sets at (Ptr place.0 place.1)

-- the cell alone is possible, and the address has no fault
pub record IsOnlyCell (rows : List FrameShape) (runs : ℕ → Bool) (at : AbstractValue) (size : ℕ)
    (cell : ℕ × ℕ) : Type 0 where
  pub cells : cells_of rows runs at.places size ≡ cell ∷ []
  pub faults : (fault : RunFault) → IsAddressFault rows runs at size fault → ⊥

-- a pointer to this frame and offset
abbrev pub pointer_to : ℕ → ℕ → AbstractValue
pointer_to frame offset = alone (Places frame (one_word 32 offset))
