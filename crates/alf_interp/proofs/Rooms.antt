-- Where values are put at starts and calls, there is room for them.
--   fitting_words, input_words     words of what frames hold at first, and of inputs, can be stored
--   inits_room, inputs_room        there is room for them
--   arguments_storable, call_room  the values of a call's arguments can be stored, and there is room for them
--   args_typed                     the arguments of a call have sizes
--   puts_entered, puts_started     what is put where a function is entered, and where a run starts, makes the history that is due
use Rattle.std.proofs.Common.{◌≡◌, ℕ, true, false, List, [], ◌∷◌, map, Option, Some, None, Result, Ok, Err, All, Contains, refl, sym, ap, ◌∙◌, subst, ⊎_elim, arith}
use Rattle.std.specs.Prelude.{slice_get, ◌==◌, ◌||◌}
use Rattle.std.specs.List.{AllZip, AllByRecursion}
use Rattle.std.specs.Option.{option_map_or}
use Rattle.std.proofs.lemmas.Bool.{eq-eqb}
use Rattle.std.proofs.lemmas.Option.{same_Some}
use Rattle.std.proofs.lemmas.List.Elements.{All-head, All-tail, Contains-append_left}
use Rattle.lists.specs.MemberLaws.{all_members}
use Rattle.lists.specs.TestLaws.{by_test}
use Rattle.alf_ops.specs.declared.history.Value.{Value}
use Rattle.alf_ops.specs.declared.history.Value.TheVariants.{Int}
use Rattle.alf_ops.specs.declared.history.RunFault.{RunFault}
use Rattle.alf_ops.specs.declared.history.FrameShape.{FrameShape}
use Rattle.alf_ops.specs.declared.history.RunEvent.{RunEvent}
use Rattle.alf_ops.specs.declared.history.RunEvent.TheVariants.{Enter}
use Rattle.alf_ops.specs.declared.history.RunEvent.TheVariants as events
use Rattle.alf_ops.specs.Values.{size_of}
use Rattle.alf_ops.specs.Histories.{is_running, is_active, IsSoundHistory}
use Rattle.alf_ops.specs.Pointers.{before, operands}
use Rattle.alf_program.specs.Tree.{NumberedExpression}
use Rattle.alf_check.specs.declared.rows.FrameRow.{FrameRow}
use Rattle.alf_check.specs.declared.rows.InitRow.{InitRow}
use Rattle.alf_check.specs.declared.rows.InputRow.{InputRow}
use Rattle.alf_check.specs.CheckedPrograms.{NumberedFunction, NumberedProgram}
use Rattle.alf_check.specs.Inputs.{KeepsInput, IsRootArgument}
use Rattle.alf_check.specs.Kept.{IsCellSize, IsKept, IsFrameOf, ArgumentKeeps, InitFits}
use Rattle.alf_check.specs.Shapes.{shapes_of}
use Rattle.alf_values.specs.Memories.{RunMemory, shapes}
use Rattle.alf_values.specs.Standing.{StandsFor, IsStorable}
use Rattle.alf_values.specs.StandingLaws.{storable}
use Rattle.alf_runs.specs.Expressions.{value_of}
use Rattle.alf_runs.specs.Entering.{with_arguments, with_inits, args_at, inits_at, entered}
use Rattle.alf_runs.specs.Starts.{with_inputs, start_history}
use Rattle.alf_runs.specs.Steps.{frames_of}
use Rattle.alf_runs.specs.Places.{IsWord}
use Rattle.alf_runs.specs.SizeLaws.{ValueHasSize}
use Rattle.alf_runs.specs.StoreLaws.{FitsFrame, stored_cell}
use Rattle.alf_interp.specs.Typed.{IsTyped}
use Rattle.alf_interp.specs.Filling.{ArgumentsHaveRoom, InitsHaveRoom, InputsHaveRoom, IsInitWord, IsInputWord}

-- ---- words

-- the words of what frames hold at first can be stored
pub fitting_words : (rows : List FrameRow) (owner : Option ℕ) (inits : List InitRow) → All (InitFits rows owner) inits
    → AllByRecursion IsInitWord inits
fitting_words rows owner [] fit = tt
fitting_words rows owner (init ∷ inits) fit =
    let here = All-head (InitFits rows owner) init inits fit in
    let value : Value = Int init.num.size init.num.bits in
    (storable init.num.size value here.cell (refl, here.word.fits), fitting_words rows owner inits (All-tail (InitFits rows owner) init inits fit))

-- a size that frames are exported with is that of a cell
pub export_cell : (size : ℕ) → ((size == 8) || (size == 16) || (size == 32) || (size == 64)) ≡ true → IsCellSize size
export_cell size h =
    by_test (size == 8) (λ e. at 8 e (record { least = omega arith; most = omega arith; bytes = refl })) (λ a.
    by_test (size == 16) (λ e. at 16 e (record { least = omega arith; most = omega arith; bytes = refl })) (λ b.
    by_test (size == 32) (λ e. at 32 e (record { least = omega arith; most = omega arith; bytes = refl })) (λ c.
    by_test (size == 64) (λ e. at 64 e (record { least = omega arith; most = omega arith; bytes = refl })) (λ d.
    absurd (let none : false ≡ true = rw (a, b, c, d) at h in cc))))) where
      at : (n : ℕ) → (size == n) ≡ true → IsCellSize n → IsCellSize size
      at n e cell = subst IsCellSize (sym (grind (arith))) cell

-- the words of inputs can be stored
pub input_words : (program : NumberedProgram) (rows : List InputRow) (words : List ℕ) → All (KeepsInput program) rows
    → AllZip IsWord rows words → AllZip IsInputWord rows words
input_words program [] [] keep are = tt
input_words program [] (word ∷ words) keep are = absurd are
input_words program (row ∷ rows) [] keep are = absurd are
input_words program (row ∷ rows) (word ∷ words) keep are =
    let here = All-head (KeepsInput program) row rows keep in
    let value : Value = Int row.size word in
    (storable row.size value (export_cell row.size here.sized) (refl, are.0), input_words program rows words (All-tail (KeepsInput program) row rows keep) are.1)

-- ---- rooms

-- after a store the same frames are active
still_active : (owner : Option ℕ) (frame offset size : ℕ) (value : Value) (history : List RunEvent)
    → is_active owner history ≡ true → is_active owner (events.Store frame offset size value ∷ history) ≡ true
still_active None frame offset size value history active = active
still_active (Some f) frame offset size value history active = active

-- while frames are active, there is room for what they hold at first
pub inits_room : (rows : List FrameRow) (owner : Option ℕ) (inits : List InitRow) (history : List RunEvent)
    → is_active owner history ≡ true → All (InitFits rows owner) inits → InitsHaveRoom (shapes_of rows) history inits
inits_room rows owner [] history active fit = tt
inits_room rows owner (init ∷ inits) history active fit =
    let here = All-head (InitFits rows owner) init inits fit in
    let value : Value = Int init.num.size init.num.bits in
    let lies = here.lies in (
      stored_cell rows history init.frame init.offset value here.row here.at (subst (λ (o : Option ℕ). is_active o history ≡ true) (sym here.owned) active) (omega arith),
      inits_room rows owner inits (events.Store init.frame init.offset init.num.size value ∷ history)
          (still_active owner init.frame init.offset init.num.size value history active) (All-tail (InitFits rows owner) init inits fit),
    )

-- the arguments of a function are its frames
arguments_owned : (program : NumberedProgram) (f : ℕ) (function : NumberedFunction) → IsKept program
    → slice_get program.funcs f ≡ Some function → All (IsFrameOf program.frames (Some f)) function.args
arguments_owned program f function kept found =
    let keeps = kept.functions f function found in
    all_members (IsFrameOf program.frames (Some f)) function.args (λ arg among.
    let member : Contains function.frames arg = subst (λ (fs : List ℕ). Contains fs arg) (sym keeps.arguments_first) (Contains-append_left function.args keeps.others arg among) in
    subst (IsFrameOf program.frames (Some f)) member.2 (keeps.owned member.0 arg member.1))

-- while the root runs, there is room for the words of inputs
pub inputs_room : (program : NumberedProgram) (rows : List InputRow) (words : List ℕ) (history : List RunEvent)
    → IsKept program → is_running history program.root ≡ true
    → All (KeepsInput program) rows → InputsHaveRoom (frames_of program) history rows words
inputs_room program [] words history kept runs keep = tt
inputs_room program (row ∷ rows) [] history kept runs keep = tt
inputs_room program (row ∷ rows) (word ∷ words) history kept runs keep =
    let here = All-head (KeepsInput program) row rows keep in
    let lies = here.lies in
    let value : Value = Int row.size word in (
      stored_cell program.frames history row.frame row.offset value here.row here.at (active here) (omega arith),
      inputs_room program rows words (events.Store row.frame row.offset row.size value ∷ history) kept runs (All-tail (KeepsInput program) row rows keep),
    )
  where
    of_root : (arg : IsRootArgument program row.frame) (found : FrameRow)
        → slice_get program.frames row.frame ≡ Some found → found.owner ≡ Some program.root
    of_root arg found at =
        let owned = arguments_owned program program.root arg.function kept arg.at in
        let own : IsFrameOf program.frames (Some program.root) row.frame = subst (IsFrameOf program.frames (Some program.root)) arg.among.2 (owned arg.among.0 row.frame arg.among.1) in
        sym (ap (λ (r : FrameRow). r.owner) (same_Some own.row found (sym own.at ∙ at))) ∙ own.owned

    active : (here : KeepsInput program row) → is_active here.row.owner history ≡ true
    active here = ⊎_elim
        (λ (global : here.row.owner ≡ None). rw global refl)
        (λ (arg : IsRootArgument program row.frame). rw (of_root arg here.row here.at) runs)
        here.may

-- while function f runs, there is room for its arguments
arguments_room : (program : NumberedProgram) (f : ℕ) (args : List ℕ) (values : List Value) (history : List RunEvent)
    → is_running history f ≡ true
    → All (IsFrameOf program.frames (Some f)) args → AllZip (FitsFrame program.frames) args values → ArgumentsHaveRoom (frames_of program) history args values
arguments_room program f [] values history runs owned fit = tt
arguments_room program f (arg ∷ args) [] history runs owned fit = tt
arguments_room program f (arg ∷ args) (value ∷ values) history runs owned fit =
    let own = All-head (IsFrameOf program.frames (Some f)) arg args owned in
    let same : own.row ≡ fit.0.row = same_Some own.row fit.0.row (sym own.at ∙ fit.0.at) in
    let owner : fit.0.row.owner ≡ Some f = sym (ap (λ (row : FrameRow). row.owner) same) ∙ own.owned in
    let sized = fit.0.sized in (
      stored_cell program.frames history arg 0 value fit.0.row fit.0.at (subst (λ (o : Option ℕ). is_active o history ≡ true) (sym owner) runs) (omega arith),
      arguments_room program f args values (events.Store arg 0 (size_of value) value ∷ history) runs (All-tail (IsFrameOf program.frames (Some f)) arg args owned) fit.1,
    )

-- ---- functions entered

arguments_run : (args : List ℕ) (values : List Value) (history : List RunEvent) (f : ℕ)
    → is_running (with_arguments args values history) f ≡ is_running history f
arguments_run [] values history f = refl
arguments_run (arg ∷ args) [] history f = refl
arguments_run (arg ∷ args) (value ∷ values) history f = arguments_run args values (events.Store arg 0 (size_of value) value ∷ history) f

inits_run : (inits : List InitRow) (history : List RunEvent) (f : ℕ)
    → is_running (with_inits inits history) f ≡ is_running history f
inits_run [] history f = refl
inits_run (init ∷ inits) history f = inits_run inits (events.Store init.frame init.offset init.num.size (Int init.num.size init.num.bits) ∷ history) f

-- a function that is entered runs, also after its arguments are put
entered_runs : (f : ℕ) (args : List ℕ) (values : List Value) (history : List RunEvent)
    → is_running (with_arguments args values (Enter f ∷ history)) f ≡ true
entered_runs f args values history = arguments_run args values (Enter f ∷ history) f ∙ rw (eq-eqb f f refl) refl

-- so does it when it is entered wholly
pub entered_is_running : (program : NumberedProgram) (f : ℕ) (values : List Value) (history : List RunEvent)
    → is_running (entered program f values history) f ≡ true
entered_is_running program f values history = inits_run (inits_at program f) (with_arguments (args_at program f) values (Enter f ∷ history)) f ∙ entered_runs f (args_at program f) values history

-- ---- the values of a call's arguments

-- operands in a row have values: the first, and the others
record HaveValues (first : Result Value RunFault) (rest : List (Result Value RunFault))
    (values : List Value) : Type 0 where
  value : Value
  others : List Value
  first_is : first ≡ Ok value
  rest_are : operands rest ≡ Ok others
  all : value ∷ others ≡ values

have_values : (first : Result Value RunFault) (rest : List (Result Value RunFault)) (values : List Value)
    → operands (first ∷ rest) ≡ Ok values → HaveValues first rest values
have_values (Err fault) rest values are = cc
have_values (Ok value) rest values are = go (operands rest) refl are where
  go : (r : Result (List Value) RunFault) → operands rest ≡ r → before value r ≡ Ok values
      → HaveValues (Ok value) rest values
  go (Ok others) is together = record { value = value; others = others; first_is = refl; rest_are = is; all = cc }
  go (Err fault) is together = cc

-- they can be stored
pub arguments_storable : ValueHasSize → (program : NumberedProgram) (caller : ℕ) (history : List RunEvent) (args : List ℕ) (es : List NumberedExpression) (values : List Value)
    → IsSoundHistory history → AllZip (ArgumentKeeps program.frames caller) args es → operands (map (value_of (frames_of program) history) es) ≡ Ok values → AllByRecursion IsStorable values
arguments_storable sizes program caller history [] [] values sound keep are = let e : [] ≡ values = cc in subst (AllByRecursion IsStorable) e tt
arguments_storable sizes program caller history [] (e ∷ es) values sound keep are = absurd keep
arguments_storable sizes program caller history (arg ∷ args) [] values sound keep are = absurd keep
arguments_storable sizes program caller history (arg ∷ args) (e ∷ es) values sound keep are =
    let row = have_values (value_of (frames_of program) history e) (map (value_of (frames_of program) history) es) values are in
    let fits = sizes program.frames caller keep.0.row.bits e (frames_of program) history row.value keep.0.value_has sound row.first_is in
    subst (AllByRecursion IsStorable) row.all (storable keep.0.row.bits row.value keep.0.cell fits, arguments_storable sizes program caller history args es row.others sound keep.1 row.rest_are)

-- there is room for them
pub call_room : (program : NumberedProgram) (f : ℕ) (function : NumberedFunction) (values : List Value) (history : List RunEvent) → IsKept program → slice_get program.funcs f ≡ Some function
    → AllZip (FitsFrame program.frames) function.args values → ArgumentsHaveRoom (frames_of program) (Enter f ∷ history) (args_at program f) values
call_room program f function values history kept found fit =
    let args : args_at program f ≡ function.args = ap (λ (o : Option NumberedFunction). option_map_or (λ function. function.args) o []) found in
    subst (λ (frames : List ℕ). ArgumentsHaveRoom (frames_of program) (Enter f ∷ history) frames values) (sym args)
    (arguments_room program f function.args values (Enter f ∷ history) (rw (eq-eqb f f refl) refl) (arguments_owned program f function kept found) fit)

-- the arguments have sizes
pub args_typed : (rows : List FrameRow) (caller : ℕ) (args : List ℕ) (es : List NumberedExpression)
    → AllZip (ArgumentKeeps rows caller) args es → AllByRecursion IsTyped es
args_typed rows caller [] [] keep = tt
args_typed rows caller [] (e ∷ es) keep = absurd keep
args_typed rows caller (arg ∷ args) [] keep = absurd keep
args_typed rows caller (arg ∷ args) (e ∷ es) keep = (record { rows = rows; function = caller; size = keep.0.row.bits; has = keep.0.value_has }, args_typed rows caller args es keep.1)

-- ---- memories

module _ (program : NumberedProgram) where
  -- what is put where a function is entered makes the history that is due
  pub puts_entered : (f : ℕ) (function : NumberedFunction) (values : List Value) (history : List RunEvent) (first second third : RunMemory) (args : List ℕ) (inits : List InitRow)
      → slice_get program.funcs f ≡ Some function → All (InitFits program.frames (Some f)) function.inits
      → shapes first ≡ frames_of program → shapes second ≡ shapes first → args ≡ function.args → inits ≡ function.inits
      → StandsFor first (Enter f ∷ history)
      → ((h : List RunEvent) → StandsFor first h → ArgumentsHaveRoom (shapes first) h args values → StandsFor second (with_arguments args values h))
      → ((h : List RunEvent) → StandsFor second h → InitsHaveRoom (shapes second) h inits → StandsFor third (with_inits inits h))
      → ArgumentsHaveRoom (frames_of program) (Enter f ∷ history) (args_at program f) values
      → StandsFor third (entered program f values history)
  puts_entered f function values history first second third args inits at fit shapes_first shapes_second args_are inits_are stands puts_args puts_inits room =
      let args_is : args_at program f ≡ args = ap (λ (o : Option NumberedFunction). option_map_or (λ function. function.args) o []) at ∙ sym args_are in
      let inits_is : inits_at program f ≡ inits = ap (λ (o : Option NumberedFunction). option_map_or (λ function. function.inits) o []) at ∙ sym inits_are in
      let here : List RunEvent = Enter f ∷ history in
      let args_room = subst (λ (fs : List FrameShape). ArgumentsHaveRoom fs here args values) (sym shapes_first) (subst (λ (as' : List ℕ). ArgumentsHaveRoom (frames_of program) here as' values) args_is room) in
      let later : List RunEvent = with_arguments args values here in
      let fits = subst (All (InitFits program.frames (Some f))) (sym inits_are) fit in
      let inits_room_here = subst (λ (fs : List FrameShape). InitsHaveRoom fs later inits) (sym (shapes_second ∙ shapes_first)) (inits_room program.frames (Some f) inits later (entered_runs f args values history) fits) in
      let all = puts_inits later (puts_args here stands args_room) inits_room_here in
      subst (λ (h : List RunEvent). StandsFor third h)
      (sym (ap (λ (is : List InitRow). with_inits is (with_arguments (args_at program f) values here)) inits_is ∙ ap (λ (as' : List ℕ). with_inits inits (with_arguments as' values here)) args_is)) all

  -- there is room for no arguments
  no_arguments_room : (frames : List FrameShape) (history : List RunEvent) (args : List ℕ)
      → ArgumentsHaveRoom frames history args []
  no_arguments_room frames history [] = tt
  no_arguments_room frames history (arg ∷ args) = tt

  -- what is put where a run starts makes the start history
  pub puts_started : (rows : List InputRow) (words : List ℕ) (first second third fourth : RunMemory) (inits : List InitRow)
      → IsKept program → All (KeepsInput program) rows → inits ≡ program.inits
      → shapes first ≡ frames_of program → shapes third ≡ frames_of program
      → StandsFor first []
      → ((h : List RunEvent) → StandsFor first h → InitsHaveRoom (shapes first) h inits → StandsFor second (with_inits inits h))
      → ((h : List RunEvent) → StandsFor second h → ArgumentsHaveRoom (frames_of program) (Enter program.root ∷ h) (args_at program program.root) [] → StandsFor third (entered program program.root [] h))
      → ((h : List RunEvent) → StandsFor third h → InputsHaveRoom (shapes third) h rows words → StandsFor fourth (with_inputs rows words h))
      → StandsFor fourth (start_history program rows words)
  puts_started rows words first second third fourth inits kept keep inits_are shapes_first shapes_third stands puts_inits enters puts_inputs =
      let fits = subst (All (InitFits program.frames None)) (sym inits_are) kept.inits in
      let room = subst (λ (fs : List FrameShape). InitsHaveRoom fs [] inits) (sym shapes_first) (inits_room program.frames None inits [] refl fits) in
      let globals : List RunEvent = with_inits program.inits [] in
      let filled = subst (λ (is : List InitRow). StandsFor second (with_inits is [])) inits_are (puts_inits [] stands room) in
      let inside = enters globals filled (no_arguments_room (frames_of program) (Enter program.root ∷ globals) (args_at program program.root)) in
      let later : List RunEvent = entered program program.root [] globals in
      let words_room = subst (λ (fs : List FrameShape). InputsHaveRoom fs later rows words) (sym shapes_third)
      (inputs_room program rows words later kept (entered_is_running program program.root [] globals) keep) in
      puts_inputs later inside words_room
