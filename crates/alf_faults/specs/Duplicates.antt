-- Names that stand twice.
--   frame_duplicates taken others frames i frame   the frame, frame i of the frames, has a name that is taken, or that one of the others or an earlier frame has
--   function_duplicates funcs k func               the function, function k, has a name that an earlier one has
--   target_duplicates earlier targets              a target has the number of an earlier one
--   entry_duplicates whole func i item             the item, item i of the function, is a label that an earlier item or a function has, or a switch with such targets
use Rattle.std.specs.Prelude.{ℕ, ◌==◌, not, ◌||◌, List, [], ◌∷◌, ◌++◌, is_some}
use Rattle.std.specs.List.{list_any}
use Rattle.std.specs.Fmt.{decimal}
use Rattle.alf_program.specs.declared.program.Num.{Num}
use Rattle.alf_program.specs.Tree.{Null, Store, Jump, Switch, Call, Return, BodyItem, Label, Do, Allocation, Function, WholeProgram}
use Rattle.alf_faults.specs.Places.{frame_place, function_place, label_place}
use Rattle.alf_faults.specs.Fault.{Fault, Duplicate, when, is_exactly}

-- a frame whose name is taken, or that one of the others or an earlier frame has
abbrev pub frame_duplicates : List Allocation → List Allocation → List Allocation → ℕ → Allocation → List Fault
frame_duplicates taken others frames i frame =
    when (is_some (frame_place taken frame.name) || is_some (frame_place others frame.name) || not (is_exactly i (frame_place frames frame.name))) (Duplicate frame.name)

-- a function whose name an earlier one has
abbrev pub function_duplicates : List Function → ℕ → Function → List Fault
function_duplicates funcs k func = when (not (is_exactly k (function_place funcs func.name))) (Duplicate func.name)

-- a number that stands twice, told in digits
abbrev pub number_twice : ℕ → Fault
number_twice number = Duplicate (decimal number)

-- a target whose number an earlier one has
abbrev pub target_duplicates : List ℕ → List (Num × List ℕ) → List Fault
target_duplicates earlier [] = []
target_duplicates earlier (target ∷ targets) = when (list_any (λ number. target.0.bits == number) earlier) (number_twice target.0.bits) ++ target_duplicates (earlier ++ target.0.bits ∷ []) targets

-- a label that an earlier item or any function has
abbrev pub label_duplicates : List Function → List BodyItem → ℕ → List ℕ → List Fault
label_duplicates funcs items i label = when (not (is_exactly i (label_place items label)) || is_some (function_place funcs label)) (Duplicate label)

abbrev pub entry_duplicates : WholeProgram → Function → ℕ → BodyItem → List Fault
entry_duplicates whole func i (Label label) = label_duplicates whole.funcs func.items i label
entry_duplicates whole func i (Do Null) = []
entry_duplicates whole func i (Do (Store at value)) = []
entry_duplicates whole func i (Do (Jump label)) = []
entry_duplicates whole func i (Do (Switch value targets others)) = target_duplicates [] targets
entry_duplicates whole func i (Do (Call label args result)) = []
entry_duplicates whole func i (Do (Return value)) = []
