-- What is stored at starts and calls lies in frames that are active, so that no such store has a fault.
--   ByStores frames old new       the new history comes from the old one by stores that have no fault
--   FitsFrame rows frame value    the frame has the size of the value
--   stored_cell                   a store in a cell that lies in an active frame has no fault
--   EntersByStores                a function is entered, and then come stores that have no fault
--   ArgumentsFit                  the values of the arguments of a call fit the frames of the function's arguments
--   StartsByStores                a run starts with such stores, the root being entered between them
use Rattle.std.specs.Prelude.{◌≡◌, ◌≤◌, ◌+◌, ◌*◌, ℕ, true, List, [], ◌∷◌, map, Some, Ok, slice_get, refl}
use Rattle.std.proofs.Common.{ap, ◌∙◌}
use Rattle.std.specs.List.{AllZip}
use Rattle.std.specs.Option.{option_map}
use Rattle.std.proofs.lemmas.Option.{slice_get-map}
use Rattle.std.proofs.lemmas.Bool.{le-leb}
use Rattle.alf_ops.specs.declared.history.Value.{Value}
use Rattle.alf_ops.specs.declared.history.Value.TheVariants.{Ptr}
use Rattle.alf_ops.specs.declared.history.FrameShape.{FrameShape}
use Rattle.alf_ops.specs.declared.history.RunEvent.{RunEvent}
use Rattle.alf_ops.specs.declared.history.RunEvent.TheVariants.{Enter, Store}
use Rattle.alf_ops.specs.Values.{size_of}
use Rattle.alf_ops.specs.Histories.{is_active, fits_in, store, IsSoundHistory}
use Rattle.alf_ops.specs.Pointers.{operands}
use Rattle.alf_program.specs.Tree.{NumberedExpression}
use Rattle.alf_check.specs.declared.rows.FrameRow.{FrameRow}
use Rattle.alf_check.specs.declared.rows.InputRow.{InputRow}
use Rattle.alf_check.specs.CheckedPrograms.{NumberedFunction, NumberedProgram}
use Rattle.alf_check.specs.Inputs.{KeepInputs}
use Rattle.alf_check.specs.Kept.{IsKept, ArgumentKeeps}
use Rattle.alf_check.specs.Shapes.{shapes_of}
use Rattle.alf_runs.specs.Expressions.{value_of}
use Rattle.alf_runs.specs.Entering.{with_inits, entered}
use Rattle.alf_runs.specs.Steps.{frames_of}
use Rattle.alf_runs.specs.Starts.{start_history}
use Rattle.alf_runs.specs.Places.{AreWords}

-- the new history comes from the old one by stores that have no fault
pub data ByStores (frames : List FrameShape) : List RunEvent → List RunEvent → Type 0 where
  unchanged : (history : List RunEvent) → ByStores frames history history
  first_store : (old middle new : List RunEvent) (place value : Value) → store frames old place value ≡ Ok middle
      → ByStores frames middle new → ByStores frames old new

-- the frame has the size of the value
pub record FitsFrame (rows : List FrameRow) (frame : ℕ) (value : Value) : Type 0 where
  pub row : FrameRow
  pub at : slice_get rows frame ≡ Some row
  pub sized : size_of value ≡ row.bits

-- a store in a cell that lies in an active frame has no fault
pub stored_cell : (rows : List FrameRow) (history : List RunEvent) (frame offset : ℕ) (value : Value) (row : FrameRow)
    → slice_get rows frame ≡ Some row
    → is_active row.owner history ≡ true
    → offset * 8 + size_of value ≤ row.bits
    → store (shapes_of rows) history (Ptr frame offset) value ≡ Ok (Store frame offset (size_of value) value ∷ history)
stored_cell rows history frame offset value row at active lies =
    let shape : FrameRow → FrameShape = λ (r : FrameRow). record { owner = r.owner; bits = r.bits } in
    let found : slice_get (shapes_of rows) frame ≡ Some (shape row) = slice_get-map shape rows frame ∙ ap (option_map shape) at in
    let fits : fits_in row.bits offset (size_of value) ≡ true = le-leb (offset * 8 + size_of value) row.bits lies in
    rw (found, active, fits) refl

-- a function is entered with values of the sizes of its arguments, and then come stores that have no fault
abbrev pub EntersByStores : Type 0
EntersByStores = (program : NumberedProgram) (f : ℕ) (function : NumberedFunction) (values : List Value) (history : List RunEvent)
    → IsKept program
    → slice_get program.funcs f ≡ Some function
    → AllZip (FitsFrame program.frames) function.args values
    → ByStores (frames_of program) (Enter f ∷ history) (entered program f values history)

-- the values of the arguments of a call have the sizes of the frames of the function's arguments
abbrev pub ArgumentsFit : Type 0
ArgumentsFit = (rows : List FrameRow) (caller : ℕ) (frames : List FrameShape) (history : List RunEvent) (args : List ℕ) (es : List NumberedExpression) (values : List Value)
    → IsSoundHistory history
    → AllZip (ArgumentKeeps rows caller) args es
    → operands (map (value_of frames history) es) ≡ Ok values
    → AllZip (FitsFrame rows) args values

-- the start: stores in global frames, the root entered, and stores in its frames and in the cells of the input rows
pub record ComesByStores (program : NumberedProgram) (rows : List InputRow) (words : List ℕ) : Type 0 where
  pub globals : ByStores (frames_of program) [] (with_inits program.inits [])
  pub rest : ByStores (frames_of program) (Enter program.root ∷ with_inits program.inits []) (start_history program rows words)

abbrev pub StartsByStores : Type 0
StartsByStores = (program : NumberedProgram) (rows : List InputRow) (words : List ℕ)
    → IsKept program
    → KeepInputs program rows
    → AreWords rows words
    → ComesByStores program rows words
