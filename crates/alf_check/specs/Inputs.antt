-- Rows of inputs: cells whose words a run is given.
--   ShareNoByte a b         two rows are of other frames, or of cells of one frame that share no byte
--   KeepsInput program row  the row is of a cell of a global frame or of an argument of the root, and its range is one of the cell's size
--   KeepInputs program rows   each row does, and no two share a byte
use Rattle.std.specs.Prelude.{◌≡◌, ◌≤◌, ◌+◌, ◌*◌, ◌-◌, ◌^◌, ◌⊎◌, ℕ, true, List, All, AllPairs, Contains, Some, None, slice_get, pos}
use lib.IntN.{◌-ℤ◌, neg_ℤ}
use lib.Signed.{◌<ℤ◌, ◌≤ℤ◌}
use Rattle.alf_faults.specs.Sizes.{is_export_size}
use Rattle.alf_check.specs.declared.rows.FrameRow.{FrameRow}
use Rattle.alf_check.specs.declared.rows.InputRow.{InputRow}
use Rattle.alf_check.specs.CheckedPrograms.{NumberedFunction, NumberedProgram}

-- frame f is an argument of the function that the program starts with
pub record IsRootArgument (program : NumberedProgram) (f : ℕ) : Type 0 where
  pub function : NumberedFunction
  pub at : slice_get program.funcs program.root ≡ Some function
  pub among : Contains function.args f

-- two rows are of other frames, or of cells of one frame that share no byte
abbrev pub ShareNoByte : InputRow → InputRow → Type 0
ShareNoByte a b = a.frame ≡ b.frame → (8 * a.offset + a.size ≤ 8 * b.offset) ⊎ (8 * b.offset + b.size ≤ 8 * a.offset)

-- the cell has 8, 16, 32 or 64 bits and lies in its frame; the range is one of signed or unsigned words of the size,
-- and has fewer than all of them and one
pub record KeepsInput (program : NumberedProgram) (input : InputRow) : Type 0 where
  pub row : FrameRow
  pub at : slice_get program.frames input.frame ≡ Some row
  pub may : (row.owner ≡ None) ⊎ IsRootArgument program input.frame
  pub sized : is_export_size input.size ≡ true
  pub lies : 8 * input.offset + input.size ≤ row.bits
  pub ordered : input.low ≤ℤ input.high
  pub least : neg_ℤ (pos (2 ^ (input.size - 1))) ≤ℤ input.low
  pub most : input.high <ℤ pos (2 ^ input.size)
  pub narrow : (input.high -ℤ input.low) <ℤ pos (2 ^ input.size)

-- the rules that rows of inputs keep for a program
pub record KeepInputs (program : NumberedProgram) (inputs : List InputRow) : Type 0 where
  pub each : All (KeepsInput program) inputs
  pub apart : AllPairs ShareNoByte inputs
