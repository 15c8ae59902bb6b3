-- The offsets of a place, one after the other.
--   IsTurned p turn t            the offset t is a number of p, with this added
--   IsLeast P from t             t is the least from this one on of which P holds
--   Finds P from found           what is found is the least; where nothing is, there is none
--   lesser_of a b                the lesser of those that are there
--   first_past bits size         the first offset at which a cell of this size does not fit
--   cells_from frame bits size x from   the cells at the offsets from this one on that fit a frame of so many bits
use Rattle.std.specs.Prelude.{ℕ, ℤ, pos, List, Option, Some, None, ◌-ℤ◌, ◌+◌, ◌-◌, ◌/◌, ◌≤◌, ◌<◌, ◌^◌, nat_le, nat_lt, if◌then◌else◌}
use Rattle.alf_ops.specs.Histories.{offsets}
use Rattle.progressions.specs.declared.ends.Progression.{Progression}
use Rattle.progressions.specs.Progressions.{Has}
use Rattle.strided_rules.specs.Strides.{Stride}
use Rattle.memory_rules.specs.Addresses.{cells_at}

-- the offset is one of the numbers, with this added
abbrev pub IsTurned : Progression → ℤ → ℕ → Type 0
IsTurned p turn t = Has p (pos t -ℤ turn) × (t < 2 ^ 32)

-- t is the least from this one on of which P holds
pub record IsLeast (P : ℕ → Type 0) (from t : ℕ) : Type 0 where
  pub holds : P t
  pub above : from ≤ t
  pub least : (other : ℕ) → P other → from ≤ other → t ≤ other

-- what is found is the least; where nothing is, there is none
abbrev pub Finds : (ℕ → Type 0) → ℕ → Option ℕ → Type 0
Finds P from None = (other : ℕ) → P other → from ≤ other → ⊥
Finds P from (Some t) = IsLeast P from t

-- the lesser of those that are there
abbrev pub lesser_of : Option ℕ → Option ℕ → Option ℕ
lesser_of None b = b
lesser_of (Some a) None = Some a
lesser_of (Some a) (Some b) = if nat_le a b then Some a else Some b

-- the first offset at which the cell does not fit
abbrev pub first_past : ℕ → ℕ → ℕ
first_past bits size = if nat_lt bits size then 0 else (bits - size) / 8 + 1

-- the cells at the offsets from this one on that fit the frame
abbrev pub cells_from : ℕ → ℕ → ℕ → Stride → ℕ → List (ℕ × ℕ)
cells_from frame bits size x from = cells_at frame bits size x (offsets from (bits / 8 - from))
