-- What look-ups give of a checked program.
--   IsFunction program f row   the row is that of function f, which keeps the rules
--   AreParts program f parts   the parts are those of function f
use Rattle.std.specs.Prelude.{◌≡◌, ◌<◌, ℕ, map, length, Some, slice_get}
use Rattle.alf_check.specs.declared.rows.FuncRow.{FuncRow}
use Rattle.alf_check.specs.declared.rows.FuncParts.{FuncParts}
use Rattle.alf_check.specs.declared.rows.Block.{Block}
use Rattle.alf_check.specs.CheckedPrograms.{NumberedFunction, NumberedProgram, blocks_at, block_of}
use Rattle.alf_check.specs.Kept.{KeepsBlock, KeepsFunction}

-- the row is that of function f, which keeps the rules
pub record IsFunction (program : NumberedProgram) (f : ℕ) (row : FuncRow) : Type 0 where
  pub function : NumberedFunction
  pub at : slice_get program.funcs f ≡ Some function
  pub name : row.name ≡ function.name
  pub args : row.args.items ≡ function.args
  pub frames : row.frames.items ≡ function.frames
  pub inits : row.inits.items ≡ function.inits
  pub keeps : KeepsFunction program f function

-- the parts are those of function f: its row, and its blocks, which keep the rules and are few
pub record AreParts (program : NumberedProgram) (f : ℕ) (parts : FuncParts) : Type 0 where
  pub row : IsFunction program f parts.row
  pub blocks : blocks_at program f ≡ map block_of parts.blocks.items
  pub few : length parts.blocks.items < 4294967295
  pub keep : (b : ℕ) (block : Block) → slice_get parts.blocks.items b ≡ Some block
      → KeepsBlock program f b (block_of block)
