-- What is stored at starts and calls has no fault.
use Rattle.std.proofs.Common.{◌≡◌, ◌≤◌, ◌+◌, ◌*◌, ℕ, true, List, [], ◌∷◌, map, Option, Some, None, Ok, All, Contains, refl, sym, ap, ◌∙◌, subst, ⊎_elim, arith}
use Rattle.std.specs.Prelude.{slice_get}
use Rattle.std.specs.List.{AllZip}
use Rattle.std.specs.Option.{option_map_or}
use Rattle.std.proofs.lemmas.Bool.{eq-eqb}
use Rattle.std.proofs.lemmas.Option.{same_Some}
use Rattle.std.proofs.lemmas.List.Elements.{All-nil, All-head, All-tail, Contains-append_left}
use Rattle.alf_ops.specs.declared.history.Value.{Value}
use Rattle.alf_ops.specs.declared.history.Value.TheVariants.{Int, Ptr}
use Rattle.alf_ops.specs.declared.history.FrameShape.{FrameShape}
use Rattle.alf_ops.specs.declared.history.RunEvent.{RunEvent}
use Rattle.alf_ops.specs.declared.history.RunEvent.TheVariants.{Enter}
use Rattle.alf_ops.specs.declared.history.RunEvent.TheVariants as events
use Rattle.alf_ops.specs.Values.{size_of, FitsValue}
use Rattle.alf_ops.specs.Histories.{is_running, is_active, IsSoundHistory}
use Rattle.alf_ops.specs.Pointers.{operands}
use Rattle.alf_program.specs.Tree.{NumberedExpression}
use Rattle.alf_check.specs.declared.rows.FrameRow.{FrameRow}
use Rattle.alf_check.specs.declared.rows.InitRow.{InitRow}
use Rattle.alf_check.specs.declared.rows.InputRow.{InputRow}
use Rattle.alf_check.specs.CheckedPrograms.{NumberedFunction, NumberedProgram}
use Rattle.alf_check.specs.Inputs.{KeepsInput, KeepInputs, IsRootArgument}
use Rattle.alf_check.specs.Kept.{IsKept, IsFrameOf, ArgumentKeeps, InitFits}
use Rattle.alf_runs.specs.Expressions.{value_of}
use Rattle.alf_runs.specs.Entering.{with_arguments, with_inits, args_at, inits_at, entered}
use Rattle.alf_runs.specs.Steps.{frames_of}
use Rattle.alf_runs.specs.Starts.{with_inputs, start_history}
use Rattle.alf_runs.specs.Places.{AreWords}
use Rattle.alf_runs.specs.StoreLaws.{ByStores, unchanged, first_store, FitsFrame, stored_cell, ComesByStores}
use Rattle.lists.specs.MemberLaws.{all_members}
use Rattle.alf_runs.proofs.Sizes.{row_of, value_fits}
use Rattle.alf_runs.proofs.Growing.{Promised, entered_runs}

-- a store in a cell that lies in an active frame, and then more of them
one_more : (program : NumberedProgram) (history new : List RunEvent) (frame offset : ℕ) (value : Value) (row : FrameRow)
    → slice_get program.frames frame ≡ Some row → is_active row.owner history ≡ true → offset * 8 + size_of value ≤ row.bits
    → ByStores (frames_of program) (events.Store frame offset (size_of value) value ∷ history) new → ByStores (frames_of program) history new
one_more program history new frame offset value row at active lies rest =
    first_store history (events.Store frame offset (size_of value) value ∷ history) new (Ptr frame offset) value (stored_cell program.frames history frame offset value row at active lies) rest

-- after a store the same frames are active
still_active : (owner : Option ℕ) (frame offset size : ℕ) (value : Value) (history : List RunEvent)
    → is_active owner history ≡ true → is_active owner (events.Store frame offset size value ∷ history) ≡ true
still_active None frame offset size value history active = active
still_active (Some f) frame offset size value history active = active

-- ---- functions entered

-- while function f runs, its arguments are stored, and then more
arguments_stored : (program : NumberedProgram) (f : ℕ) (args : List ℕ) (values : List Value) (history new : List RunEvent) → is_running history f ≡ true
    → All (IsFrameOf program.frames (Some f)) args → AllZip (FitsFrame program.frames) args values
    → ((later : List RunEvent) → later ≡ with_arguments args values history → is_running later f ≡ true → ByStores (frames_of program) later new)
    → ByStores (frames_of program) history new
arguments_stored program f [] values history new runs owned fit rest = rest history refl runs
arguments_stored program f (arg ∷ args) [] history new runs owned fit rest = absurd fit
arguments_stored program f (arg ∷ args) (value ∷ values) history new runs owned fit rest =
    let own = All-head (IsFrameOf program.frames (Some f)) arg args owned in
    let same : own.row ≡ fit.0.row = same_Some own.row fit.0.row (sym own.at ∙ fit.0.at) in
    let owner : fit.0.row.owner ≡ Some f = sym (ap (λ (row : FrameRow). row.owner) same) ∙ own.owned in
    let sized = fit.0.sized in
    one_more program history new arg 0 value fit.0.row fit.0.at (subst (λ (o : Option ℕ). is_active o history ≡ true) (sym owner) runs) (omega arith)
    (arguments_stored program f args values (events.Store arg 0 (size_of value) value ∷ history) new runs (All-tail (IsFrameOf program.frames (Some f)) arg args owned) fit.1 rest)

-- while the frames of an owner are active, what they hold at first is stored, and then more
inits_stored : (program : NumberedProgram) (owner : Option ℕ) (inits : List InitRow) (history new : List RunEvent)
    → is_active owner history ≡ true
    → All (InitFits program.frames owner) inits
    → ((later : List RunEvent) → later ≡ with_inits inits history → is_active owner later ≡ true → ByStores (frames_of program) later new)
    → ByStores (frames_of program) history new
inits_stored program owner [] history new active fit rest = rest history refl active
inits_stored program owner (init ∷ inits) history new active fit rest =
    let here = All-head (InitFits program.frames owner) init inits fit in
    let value : Value = Int init.num.size init.num.bits in
    let lies = here.lies in
    one_more program history new init.frame init.offset value here.row here.at (subst (λ (o : Option ℕ). is_active o history ≡ true) (sym here.owned) active) (omega arith)
    (inits_stored program owner inits (events.Store init.frame init.offset init.num.size value ∷ history) new
    (still_active owner init.frame init.offset init.num.size value history active) (All-tail (InitFits program.frames owner) init inits fit) rest)

-- a function that is entered gets values of the sizes of its arguments
pub enters_by_stores : (program : NumberedProgram) (f : ℕ) (function : NumberedFunction) (values : List Value) (history : List RunEvent) → IsKept program
    → slice_get program.funcs f ≡ Some function → AllZip (FitsFrame program.frames) function.args values
    → ByStores (frames_of program) (Enter f ∷ history) (entered program f values history)
enters_by_stores program f function values history kept found fit =
    let keeps = kept.functions f function found in
    let args : args_at program f ≡ function.args = ap (λ (o : Option NumberedFunction). option_map_or (λ function. function.args) o []) found in
    let inits : inits_at program f ≡ function.inits = ap (λ (o : Option NumberedFunction). option_map_or (λ function. function.inits) o []) found in
    let owned : All (IsFrameOf program.frames (Some f)) function.args =
    all_members (IsFrameOf program.frames (Some f)) function.args (λ arg among.
    let member : Contains function.frames arg = subst (λ (fs : List ℕ). Contains fs arg) (sym keeps.arguments_first) (Contains-append_left function.args keeps.others arg among) in
    subst (IsFrameOf program.frames (Some f)) member.2 (keeps.owned member.0 arg member.1)) in
    let here : List RunEvent = Enter f ∷ history in
    let runs : is_running here f ≡ true = rw (eq-eqb f f refl) refl in
    let last : List RunEvent = with_inits function.inits (with_arguments function.args values here) in
    let stored : ByStores (frames_of program) here last = arguments_stored program f function.args values here last runs owned fit
    (λ later is later_runs. inits_stored program (Some f) function.inits later last later_runs keeps.inits
    (λ final same active. subst (λ (h : List RunEvent). ByStores (frames_of program) h last) (sym (same ∙ ap (with_inits function.inits) is)) (unchanged last))) in
    let entered_is : last ≡ entered program f values history =
    sym (ap (λ (rows : List InitRow). with_inits rows (with_arguments (args_at program f) values here)) inits
    ∙ ap (λ (frames : List ℕ). with_inits function.inits (with_arguments frames values here)) args) in
    subst (λ (h : List RunEvent). ByStores (frames_of program) here h) entered_is stored

-- a value that fits has the size
own_bits : (size : ℕ) (value : Value) → FitsValue size value → size_of value ≡ size
own_bits size (Int own word) fits = fits.0
own_bits size (Ptr frame offset) fits = sym fits.0

-- the values of the arguments of a call have the sizes of the frames of the function's arguments
pub arguments_have : Promised → (rows : List FrameRow) (caller : ℕ) (frames : List FrameShape) (history : List RunEvent) (args : List ℕ) (es : List NumberedExpression) (values : List Value)
    → IsSoundHistory history → AllZip (ArgumentKeeps rows caller) args es → operands (map (value_of frames history) es) ≡ Ok values → AllZip (FitsFrame rows) args values
arguments_have promised rows caller frames history [] [] values sound keep are = let e : [] ≡ values = cc in subst (λ (vs : List Value). AllZip (FitsFrame rows) [] vs) e tt
arguments_have promised rows caller frames history [] (e ∷ es) values sound keep are = absurd keep
arguments_have promised rows caller frames history (arg ∷ args) [] values sound keep are = absurd keep
arguments_have promised rows caller frames history (arg ∷ args) (e ∷ es) values sound keep are =
    let row = row_of (value_of frames history e) (map (value_of frames history) es) values are in
    let fits = value_fits promised.outcomes promised.loads rows caller frames history sound e keep.0.row.bits row.value keep.0.value_has row.first_is in
    subst (λ (vs : List Value). AllZip (FitsFrame rows) (arg ∷ args) vs) row.all (
      record { row = keep.0.row; at = keep.0.at; sized = own_bits keep.0.row.bits row.value fits },
      arguments_have promised rows caller frames history args es row.others sound keep.1 row.rest_are,
    )

-- ---- starts

-- without values no argument is stored
none_stored : (args : List ℕ) (history : List RunEvent) → with_arguments args [] history ≡ history
none_stored [] history = refl
none_stored (arg ∷ args) history = refl

no_arguments : (program : NumberedProgram) (here : List RunEvent)
    → with_inits (inits_at program program.root) (with_arguments (args_at program program.root) [] here) ≡ with_inits (inits_at program program.root) here
no_arguments program here = ap (with_inits (inits_at program program.root)) (none_stored (args_at program program.root) here)

inits_of : (program : NumberedProgram) → IsKept program → (f : ℕ)
    → All (InitFits program.frames (Some f)) (inits_at program f)
inits_of program kept f = go (slice_get program.funcs f) refl
  where
    go : (o : Option NumberedFunction) → slice_get program.funcs f ≡ o
        → All (InitFits program.frames (Some f)) (option_map_or (λ function. function.inits) o [])
    go None found = All-nil (InitFits program.frames (Some f))
    go (Some function) found = (kept.functions f function found).inits

-- a cell of an input row lies in a frame that is active while the root runs
input_active : (program : NumberedProgram) → IsKept program
    → (row : InputRow) (keeps : KeepsInput program row) (history : List RunEvent)
    → is_running history program.root ≡ true
    → is_active keeps.row.owner history ≡ true
input_active program kept row keeps history runs = ⊎_elim
    (λ (global : keeps.row.owner ≡ None). subst (λ (o : Option ℕ). is_active o history ≡ true) (sym global) refl)
    (λ (argument : IsRootArgument program row.frame).
    let function = kept.functions program.root argument.function argument.at in
    let among : Contains argument.function.frames row.frame =
    subst (λ (fs : List ℕ). Contains fs row.frame) (sym function.arguments_first) (Contains-append_left argument.function.args function.others row.frame argument.among) in
    let own : IsFrameOf program.frames (Some program.root) row.frame =
    subst (IsFrameOf program.frames (Some program.root)) among.2 (function.owned among.0 row.frame among.1) in
    let same : own.row ≡ keeps.row = same_Some own.row keeps.row (sym own.at ∙ keeps.at) in
    subst (λ (o : Option ℕ). is_active o history ≡ true) (sym (sym (ap (λ (r : FrameRow). r.owner) same) ∙ own.owned)) runs)
    keeps.may

inputs_stored : (program : NumberedProgram) → IsKept program
    → (rows : List InputRow) (words : List ℕ) (history : List RunEvent) → is_running history program.root ≡ true
    → All (KeepsInput program) rows → ByStores (frames_of program) history (with_inputs rows words history)
inputs_stored program kept [] words history runs keep = unchanged history
inputs_stored program kept (row ∷ rows) [] history runs keep = unchanged history
inputs_stored program kept (row ∷ rows) (word ∷ words) history runs keep =
    let here = All-head (KeepsInput program) row rows keep in
    let value : Value = Int row.size word in
    let lies = here.lies in
    one_more program history (with_inputs rows words (events.Store row.frame row.offset row.size value ∷ history)) row.frame row.offset value here.row here.at
    (input_active program kept row here history runs) (omega arith)
    (inputs_stored program kept rows words (events.Store row.frame row.offset row.size value ∷ history) runs (All-tail (KeepsInput program) row rows keep))

-- the root is entered without arguments, and then come more stores
root_enters : (program : NumberedProgram) → IsKept program → (new globals : List RunEvent)
    → ByStores (frames_of program) (entered program program.root [] globals) new
    → ByStores (frames_of program) (Enter program.root ∷ globals) new
root_enters program kept new globals rest =
    let here : List RunEvent = Enter program.root ∷ globals in
    let runs : is_running here program.root ≡ true = rw (eq-eqb program.root program.root refl) refl in
    inits_stored program (Some program.root) (inits_at program program.root) here new runs (inits_of program kept program.root)
    (λ later same active. subst (λ (h : List RunEvent). ByStores (frames_of program) h new) (no_arguments program here ∙ sym same) rest)

pub starts_by_stores : (program : NumberedProgram) (rows : List InputRow) (words : List ℕ) → IsKept program
    → KeepInputs program rows → AreWords rows words → ComesByStores program rows words
starts_by_stores program rows words kept keep fit =
    let globals : List RunEvent = with_inits program.inits [] in
    let root_runs : is_running (entered program program.root [] globals) program.root ≡ true =
    entered_runs program program.root [] globals program.root ∙ rw (eq-eqb program.root program.root refl) refl in
    record {
      globals = inits_stored program None program.inits [] globals refl kept.inits
          (λ later same active. subst (λ (h : List RunEvent). ByStores (frames_of program) h globals) (sym same) (unchanged globals));
      rest = root_enters program kept (start_history program rows words) globals (inputs_stored program kept rows words (entered program program.root [] globals) root_runs keep.each);
    }
