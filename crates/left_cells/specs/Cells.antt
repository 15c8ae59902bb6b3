-- What cells hold in the histories that a memory stands for.
--   IsBetween size low high value   the value is the word of a number between these
--   EachHoldsBetween                in each history that the memory stands for, a load of the cell gives the word of a number between these
--   IsSmallRange row                the ends of the range have at most 65 bits
--   IsSpan size by                  2 to the size, or 0
--   IsWholeRange row                the range of the row has every word
--   IsRangeOf row low high          each number between these is, modulo 2 to the size, one inside the range of the row
--   EachHoldsInside                 in each history, a load of the row's cell gives the word of a number inside its range
use Rattle.std.specs.Prelude.{◌≡◌, ◌^◌, ◌⊎◌, ◌-ℤ◌, ℕ, ℤ, pos, neg_ℤ, List, Ok}
use lib.Signed.{◌≤ℤ◌}
use Rattle.alf_ops.specs.declared.history.Value.{Value}
use Rattle.alf_ops.specs.declared.history.Value.TheVariants.{Int, Ptr}
use Rattle.alf_ops.specs.declared.history.RunEvent.{RunEvent}
use Rattle.alf_ops.specs.declared.history.FrameShape.{FrameShape}
use Rattle.alf_ops.specs.Histories.{load, IsSoundHistory}
use Rattle.alf_ops.specs.TwosComplement.{word}
use Rattle.alf_check.specs.declared.rows.InputRow.{InputRow}
use Rattle.alf_runs.specs.Starts.{IsWithin}
use Rattle.progressions.specs.Progressions.{full}
use Rattle.memory_rules.specs.Memories.{Mem, MemCovers}
use Rattle.memory_rules.specs.AbstractSets.{abstract_sets}

-- the value is the word of a number between these
pub record IsBetween (size : ℕ) (low high : ℤ) (value : Value) : Type 0 where
  pub number : ℤ
  pub least : low ≤ℤ number
  pub most : number ≤ℤ high
  pub is : value ≡ Int size (word size number)

-- a load of the cell gives the word of a number between these
pub record HoldsBetween (rows : List FrameShape) (history : List RunEvent) (frame offset size : ℕ)
    (low high : ℤ) : Type 0 where
  pub number : ℤ
  pub least : low ≤ℤ number
  pub most : number ≤ℤ high
  pub holds : load rows history (Ptr frame offset) size ≡ Ok (Int size (word size number))

-- so it does in each history that the memory stands for
abbrev pub EachHoldsBetween : List FrameShape → Mem abstract_sets → ℕ → ℕ → ℕ → ℤ → ℤ → Type 0
EachHoldsBetween rows m frame offset size low high = (history : List RunEvent) → IsSoundHistory history → MemCovers abstract_sets rows m history → HoldsBetween rows history frame offset size low high

-- the ends of the range have at most 65 bits, as those of each input row of a program have
pub record IsSmallRange (row : InputRow) : Type 0 where
  pub least : neg_ℤ (pos (2 ^ 64)) ≤ℤ row.low
  pub most : row.high ≤ℤ pos (2 ^ 64)
  pub ordered : row.low ≤ℤ row.high

-- 2 to the size, or 0
pub record IsSpan (size : ℕ) (by : ℤ) : Type 0 where
  pub is : (by ≡ pos 0) ⊎ (by ≡ full size)
  pub least : pos 0 ≤ℤ by
  pub most : by ≤ℤ pos (2 ^ 64)

-- the range of the row has every word
abbrev pub IsWholeRange : InputRow → Type 0
IsWholeRange row = (full row.size -ℤ pos 1) ≤ℤ (row.high -ℤ row.low)

-- each number between these is, modulo 2 to the size, one inside the range of the row
abbrev pub IsRangeOf : InputRow → ℤ → ℤ → Type 0
IsRangeOf row low high = (number : ℤ) → low ≤ℤ number → number ≤ℤ high → (own : ℤ) × IsWithin row own × (word row.size number ≡ word row.size own)

-- a load of the row's cell gives the word of a number inside its range
pub record HoldsInside (rows : List FrameShape) (history : List RunEvent) (row : InputRow) : Type 0 where
  pub number : ℤ
  pub within : IsWithin row number
  pub holds : load rows history (Ptr row.frame row.offset) row.size ≡ Ok (Int row.size (word row.size number))

abbrev pub EachHoldsInside : List FrameShape → Mem abstract_sets → InputRow → Type 0
EachHoldsInside rows m row = (history : List RunEvent) → IsSoundHistory history → MemCovers abstract_sets rows m history → HoldsInside rows history row
