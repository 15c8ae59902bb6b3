-- When the abstract memory of a frame covers a table of bytes.
--   IsCellSize size         a multiple of 8, 8 to 64
--   ByteCovers              without a store it has u; after a word its value covers the byte; after a pointer it has p
--   Among r results         the load's value or fault is one of the results
--   FrameCovers bits m from the frame of so many bits covers the table
--   FrameSized              the values that are kept have their sizes
use Rattle.std.specs.Prelude.{◌≡◌, ◌⊎◌, ℕ, true, false, List, [], ◌∷◌, Option, Some, None, Result, Ok, Err, IsSomeAnd, IfSome, ◌/◌, ◌%◌, ◌<◌, ◌≤◌}
use Rattle.alf_ops.specs.declared.history.Value.{Value}
use Rattle.alf_ops.specs.declared.history.Value.TheVariants.{Int, Ptr}
use Rattle.alf_ops.specs.declared.history.RunFault.{RunFault}
use Rattle.alf_ops.specs.Histories.{Byte, byte_of, cell_in, fits_in}
use Rattle.alf_ops.specs.WholeCells.{is_whole}
use Rattle.memory_rules.specs.ValueSets.{ValueSets}
use Rattle.memory_rules.specs.Frames.{AbstractByte, Cell, FrameMem, taken, results}

-- the size of a cell
abbrev pub IsCellSize : ℕ → Type 0
IsCellSize size = (0 < size / 8) × (size % 8 ≡ 0) × (size ≤ 64)

module _ (d : ValueSets) where
  abbrev pub HoldsByte : AbstractByte d.Word → Value → ℕ → Type 0
  HoldsByte byte (Int size bits) place = IsSomeAnd byte.value (λ word. d.has word 8 (byte_of place bits))
  HoldsByte byte (Ptr frame offset) place = byte.p ≡ true

  abbrev pub ByteCovers : AbstractByte d.Word → Option Byte → Type 0
  ByteCovers byte None = byte.u ≡ true
  ByteCovers byte (Some stored) = HoldsByte byte stored.value stored.place

  -- the result is of this value or fault
  abbrev pub Matches : Result d.Val RunFault → Result Value RunFault → Type 0
  Matches (Ok set) (Ok value) = d.covers set value
  Matches (Ok set) (Err fault) = ⊥
  Matches (Err told) (Ok value) = ⊥
  Matches (Err told) (Err fault) = told ≡ fault

  abbrev pub Among : Result Value RunFault → List (Result d.Val RunFault) → Type 0
  Among r [] = ⊥
  Among r (result ∷ results) = Matches result r ⊎ Among r results

  pub record FrameCovers (bits : ℕ) (m : FrameMem d) (from : ℕ → Option Byte) : Type 0 where
    pub bytes : (byte : ℕ) → ByteCovers (m.bytes byte) (from byte)
    pub kept : (offset size : ℕ) (cell : Cell d.Val) → m.cells offset size ≡ Some cell → IsCellSize size
        → fits_in bits offset size ≡ true
        → Among (cell_in from offset size) (results d (taken d m offset size) cell)
    pub others : (offset size : ℕ) → m.cells offset size ≡ None → IsCellSize size → is_whole from offset size ≡ false

-- the values that are kept have their sizes: 8 in a byte, the cell's in a cell
pub record FrameSized (d : ValueSets) (m : FrameMem d) : Type 0 where
  pub bytes : (byte : ℕ) → IfSome (m.bytes byte).value (λ word. d.sized word 8)
  pub kept : (offset size : ℕ) (cell : Cell d.Val) → m.cells offset size ≡ Some cell
      → IfSome cell.value (λ set. d.val_sized set size)
