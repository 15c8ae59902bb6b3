-- Covering of a frame, by values and flags in place of results.
--   FrameHolds      covering with values and flags, without any bytes in a cell
use Rattle.std.proofs.Common.{◌≡◌, ℕ, true, false, Option, Some, None}
use Rattle.alf_ops.specs.Histories.{Byte, cell_in, fits_in}
use Rattle.alf_ops.specs.WholeCells.{is_whole}
use Rattle.memory_rules.specs.ValueSets.{ValueSets, IsValueSets}
use Rattle.memory_rules.specs.Frames.{Cell, FrameMem}
use Rattle.memory_rules.specs.Covers.{ByteCovers, IsCellSize}
use Rattle.memory_rules.specs.Flags.{FlagCovers}

pub record FrameHolds (d : ValueSets) (bits : ℕ) (m : FrameMem d) (from : ℕ → Option Byte) : Type 0 where
  pub bytes : (byte : ℕ) → ByteCovers d (m.bytes byte) (from byte)
  pub kept : (offset size : ℕ) (cell : Cell d.Val) → m.cells offset size ≡ Some cell → IsCellSize size
      → fits_in bits offset size ≡ true
      → FlagCovers d cell (cell_in from offset size)
  pub others : (offset size : ℕ) → m.cells offset size ≡ None → IsCellSize size → is_whole from offset size ≡ false
