-- Arguments of a call, and the frames that take them.
--   IsArgument table owner frame v   the value has the size of the frame, which is a cell's
--   HaveFrames parts args vs         each value of its frame, where these are active
--   FitCall program f vs             values of the arguments of a call of the function
use Rattle.std.specs.Prelude.{◌≡◌, ℕ, true, List, Option, Some, slice_get}
use Rattle.std.specs.List.{AllZip}
use Rattle.alf_check.specs.declared.rows.FrameRow.{FrameRow}
use Rattle.alf_check.specs.CheckedPrograms.{NumberedFunction, NumberedProgram, seen}
use Rattle.alf_check.specs.Kept.{IsCellSize}
use Rattle.pointer_rules.specs.AbstractValues.{AbstractValue}
use Rattle.pointer_rules.specs.Covering.{IsValue}
use Rattle.memory_rules.specs.Memories.{is_on}
use Rattle.memory_model.specs.KeptMemories.{MemoryParts, memory_in}
use Rattle.transfer_rules.specs.EvaluatingLaws.{ArgumentIs}

-- the value has the size of the frame, which is a cell's
pub record IsArgument (table : List FrameRow) (owner : Option ℕ) (frame : ℕ) (v : AbstractValue) : Type 0 where
  pub row : FrameRow
  pub at : slice_get table frame ≡ Some row
  pub owned : row.owner ≡ owner
  pub cell : IsCellSize row.bits
  pub is : IsValue row.bits v

-- each value of its frame, where these are active
pub record HaveFrames (parts : MemoryParts) (args : List ℕ) (vs : List AbstractValue) : Type 0 where
  pub owner : Option ℕ
  pub active : is_on (memory_in parts).runs owner ≡ true
  pub each : AllZip (IsArgument (seen parts.checked).frames owner) args vs

-- values of the arguments of a call of the function
pub record FitCall (program : NumberedProgram) (f : ℕ) (vs : List AbstractValue) : Type 0 where
  pub caller : ℕ
  pub function : NumberedFunction
  pub at : slice_get program.funcs f ≡ Some function
  pub are : AllZip (ArgumentIs program.frames caller) function.args vs
