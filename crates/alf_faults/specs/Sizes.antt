-- The size rules of items and of what frames hold at first.
--   start_fits bits start            the number is of whole bytes and lies in a frame of so many bits
--   is_export_size bits              a frame of so many bits may be exported
--   targets_fit size targets         there is a size, and each target has it
--   arguments_fit frames args        the arguments are as many as the frames, each of its frame's size
--   call_fits whole k i label args has_result   a call that is item i of function k fits the function that it calls
--   return_fits whole k func i value        a return that is item i of the function, function k, fits the function's first return, and the calls before it fit
--   entry_fits whole k func i item   the item keeps the size rules
use Rattle.std.specs.Prelude.{ℕ, ◌+◌, ◌*◌, ◌%◌, ◌==◌, Bool, true, false, not, ◌&&◌, ◌||◌, nat_le, List, [], ◌∷◌, Option, Some, None, is_some, slice_get}
use Rattle.alf_program.specs.declared.program.Num.{Num}
use Rattle.alf_program.specs.Tree.{NamedExpression, Null, Store, Jump, Switch, Call, Return, BodyItem, Label, Do, Allocation, InitialValue, Function, WholeProgram}
use Rattle.alf_faults.specs.Places.{function_place}
use Rattle.alf_faults.specs.Fault.{is_exactly}
use Rattle.alf_faults.specs.TermSizes.{same_size, is_bytes, term_size, return_size}
use Rattle.alf_faults.specs.Returns.{first_return, agrees, is_before, is_breached}
use Rattle.alf_faults.specs.declared.returns.FirstReturn.{FirstReturn}

-- the number is of whole bytes and lies in the frame
abbrev pub start_fits : ℕ → InitialValue → Bool
start_fits bits start = ((start.num.size % 8) == 0) && nat_le (8 * start.offset + start.num.size) bits

-- 8, 16, 32 or 64 bits
abbrev pub is_export_size : ℕ → Bool
is_export_size bits = (bits == 8) || (bits == 16) || (bits == 32) || (bits == 64)

-- each target has the size
abbrev pub targets_have : ℕ → List (Num × List ℕ) → Bool
targets_have size [] = true
targets_have size (target ∷ targets) = (target.0.size == size) && targets_have size targets

-- there is a size, and each target has it
abbrev pub targets_fit : Option ℕ → List (Num × List ℕ) → Bool
targets_fit None targets = false
targets_fit (Some size) targets = targets_have size targets

-- the first frame has this size
abbrev pub takes_first : List Allocation → Option ℕ → Bool
takes_first [] size = false
takes_first (frame ∷ frames) size = is_exactly frame.bits size

-- the frames after the first
abbrev pub other_frames : List Allocation → List Allocation
other_frames [] = []
other_frames (frame ∷ frames) = frames

abbrev pub is_no_frame : List Allocation → Bool
is_no_frame [] = true
is_no_frame (frame ∷ frames) = false

-- the arguments are as many as the frames, each of its frame's size
abbrev pub arguments_fit : List Allocation → List NamedExpression → Bool
arguments_fit frames [] = is_no_frame frames
arguments_fit frames (arg ∷ args) = takes_first frames (term_size arg) && arguments_fit (other_frames frames) args

-- a call that is item i of function k agrees with the first return of function p, where that stands before it
abbrev pub agrees_behind : ℕ → Option FirstReturn → ℕ → ℕ → Bool → Bool
agrees_behind p None k i has_result = true
agrees_behind p (Some return) k i has_result = not (is_before p return.item k i) || agrees has_result return

-- a call that is item i of function k fits function p
abbrev pub fits_function : ℕ → Option Function → ℕ → ℕ → List NamedExpression → Bool → Bool
fits_function p None k i args has_result = false
fits_function p (Some called) k i args has_result = arguments_fit called.args args && agrees_behind p (first_return called.items) k i has_result

-- a call that is item i of function k fits the function at this place
abbrev pub fits_place : List Function → Option ℕ → ℕ → ℕ → List NamedExpression → Bool → Bool
fits_place funcs None k i args has_result = false
fits_place funcs (Some p) k i args has_result = fits_function p (slice_get funcs p) k i args has_result

abbrev pub call_fits : WholeProgram → ℕ → ℕ → List ℕ → List NamedExpression → Bool → Bool
call_fits whole k i label args has_result = fits_place whole.funcs (function_place whole.funcs label) k i args has_result

-- item i of function k is this return of the first function of the name, and a call before it does not agree with it
abbrev pub breaks_calls : WholeProgram → ℕ → List ℕ → ℕ → FirstReturn → Bool
breaks_calls whole k name i return = (return.item == i) && is_exactly k (function_place whole.funcs name) && is_breached whole.funcs name return k

-- a return that is item i of function k gives the size of the function's first return, and where it is that first
-- return, the calls before it agree with it
abbrev pub fits_return : WholeProgram → ℕ → List ℕ → ℕ → Option FirstReturn → Option ℕ → Bool
fits_return whole k name i None size = false
fits_return whole k name i (Some return) size = same_size return.size size && not (breaks_calls whole k name i return)

abbrev pub return_fits : WholeProgram → ℕ → Function → ℕ → Option NamedExpression → Bool
return_fits whole k func i value = fits_return whole k func.name i (first_return func.items) (return_size value)

-- the item keeps the size rules
abbrev pub entry_fits : WholeProgram → ℕ → Function → ℕ → BodyItem → Bool
entry_fits whole k func i (Label label) = true
entry_fits whole k func i (Do Null) = true
entry_fits whole k func i (Do (Store at value)) = is_exactly 32 (term_size at) && is_bytes (term_size value)
entry_fits whole k func i (Do (Jump label)) = true
entry_fits whole k func i (Do (Switch value targets others)) = targets_fit (term_size value) targets
entry_fits whole k func i (Do (Call label args result)) = call_fits whole k i label args (is_some result)
entry_fits whole k func i (Do (Return value)) = return_fits whole k func i value
