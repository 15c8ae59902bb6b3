-- When the abstract memory of a frame is sharp for a table of bytes that it covers.
--   ExactlyOne byte      exactly one of u, p and one value with one member
--   Exactly r results    the results are exactly this value or this fault
--   FrameSharp           each byte has exactly one, and each kept cell that fits gives exactly the load's value or fault
use Rattle.std.specs.Prelude.{◌≡◌, ◌⊎◌, ℕ, true, false, List, [], ◌∷◌, Option, Some, None, Result, Ok, Err}
use Rattle.alf_ops.specs.declared.history.Value.{Value}
use Rattle.alf_ops.specs.declared.history.RunFault.{RunFault}
use Rattle.alf_ops.specs.Histories.{Byte, cell_in, fits_in}
use Rattle.memory_rules.specs.ValueSets.{ValueSets, OnlyHas, OnlyCovers}
use Rattle.memory_rules.specs.Frames.{AbstractByte, Cell, FrameMem, taken, results}
use Rattle.memory_rules.specs.Covers.{IsCellSize, Among, FrameCovers}

module _ (d : ValueSets) where
  abbrev pub HasOne : AbstractByte d.Word → Type 0
  HasOne byte = (word : d.Word) × (bits : ℕ) × (byte.value ≡ Some word) × OnlyHas d word 8 bits

  abbrev pub ExactlyOne : AbstractByte d.Word → Type 0
  ExactlyOne byte =
      ((byte.u ≡ true) × (byte.p ≡ false) × (byte.value ≡ None))
      ⊎ (((byte.u ≡ false) × (byte.p ≡ true) × (byte.value ≡ None))
      ⊎ ((byte.u ≡ false) × (byte.p ≡ false) × HasOne byte))

  -- the result is of this value or fault, and of no other
  abbrev pub MatchesOnly : Result d.Val RunFault → Result Value RunFault → Type 0
  MatchesOnly (Ok set) (Ok value) = OnlyCovers d set value
  MatchesOnly (Ok set) (Err fault) = ⊥
  MatchesOnly (Err told) (Ok value) = ⊥
  MatchesOnly (Err told) (Err fault) = told ≡ fault

  abbrev pub EachIs : Result Value RunFault → List (Result d.Val RunFault) → Type 0
  EachIs r [] = Unit {0}
  EachIs r (result ∷ results) = MatchesOnly result r × EachIs r results

  abbrev pub Exactly : Result Value RunFault → List (Result d.Val RunFault) → Type 0
  Exactly r results = Among d r results × EachIs r results

  pub record FrameSharp (bits : ℕ) (m : FrameMem d) (from : ℕ → Option Byte) : Type 0 where
    pub covers : FrameCovers d bits m from
    pub bytes : (byte : ℕ) → ExactlyOne (m.bytes byte)
    pub kept : (offset size : ℕ) (cell : Cell d.Val) → m.cells offset size ≡ Some cell → IsCellSize size
        → fits_in bits offset size ≡ true
        → Exactly (cell_in from offset size) (results d (taken d m offset size) cell)
