-- What abstract memories hold where functions are entered and where runs start tells what histories have
-- there.
--   placed                      a cell of an active frame
--   filled_told, filled_kept    a value stored in such a cell
--   ArgumentFits                a value of a run for the frame of an argument
--   entered_told, entered_kept  a function entered with its arguments
--   OnlyInput, start_told       the start with inputs inside the ranges
use Rattle.std.specs.Prelude.{slice_get, All, Contains}
use Rattle.std.specs.List.{AllZip}
use Rattle.std.specs.Option.{option_map, option_map_or}
use Rattle.std.proofs.Common.{◌≡◌, ℕ, true, List, [], ◌∷◌, Option, Some, None, ◌≤◌, ◌+◌, ◌*◌, refl, sym, ap, subst, ◌∙◌, arith}
use Rattle.std.proofs.lemmas.Option.{slice_get-map, same_Some}
use Rattle.std.proofs.lemmas.Bool.{le-leb, eq-eqb}
use Rattle.std.proofs.lemmas.List.Elements.{All-head, All-tail, All-contains, Contains-append_left}
use Rattle.lists.specs.MemberLaws.{first_member, further_member, first_or_further, no_member}
use Rattle.alf_ops.specs.declared.history.Value.{Value}
use Rattle.alf_ops.specs.declared.history.Value.TheVariants.{Int}
use Rattle.alf_ops.specs.declared.history.FrameShape.{FrameShape}
use Rattle.alf_ops.specs.declared.history.RunEvent.{RunEvent}
use Rattle.alf_ops.specs.declared.history.RunEvent.TheVariants.{Enter, Store}
use Rattle.alf_ops.specs.TwosComplement.{word}
use Rattle.alf_ops.specs.Values.{FitsValue, size_of}
use Rattle.alf_ops.specs.Histories.{is_active, is_running}
use Rattle.alf_program.specs.Tree.{NumberedExpression}
use Rattle.alf_check.specs.declared.rows.FrameRow.{FrameRow}
use Rattle.alf_check.specs.declared.rows.InitRow.{InitRow}
use Rattle.alf_check.specs.CheckedPrograms.{NumberedFunction, NumberedProgram}
use Rattle.alf_check.specs.Kept.{IsKept, IsFrameOf, InitFits, ArgumentKeeps}
use Rattle.alf_check.specs.Shapes.{shapes_of}
use Rattle.alf_runs.specs.Steps.{frames_of}
use Rattle.alf_runs.specs.Entering as runs
use Rattle.alf_runs.specs.Entering.{args_at, inits_at}
use Rattle.pointer_rules.specs.AbstractValues.{AbstractValue}
use Rattle.pointer_rules.specs.Covering.{IsValue}
use Rattle.memory_rules.specs.Covers.{IsCellSize as IsCell}
use Rattle.memory_rules.specs.Memories.{Mem, entered, MemSized, IsPlaced}
use Rattle.memory_rules.specs.AbstractSets.{abstract_sets}
use Rattle.memory_rules.specs.AbstractSetLaws.{abstract_is_sets}
use Rattle.memory_rules.specs.MemoryProofLaws.{store_covers, memory_stays_sharp, store_sized, enter_covers, sharp_enter, enter_sized}
use Rattle.transfer_rules.specs.Evaluating.{width_of, word_value}
use Rattle.transfer_rules.specs.Filling.{filled, with_arguments, with_inits, entered_with}
use Rattle.transfer_rules.specs.Standing.{Stands, ValueTold, AllTold}
use Rattle.transfer_rules.specs.StandingLaws.{word_is, word_told}
use Rattle.transfer_rules.specs.EvaluatingLaws.{cell_size, word_size, ArgumentIs}
use Rattle.transfer_rules.specs.DoingLaws.{width_is, own_size, own_fits, Kept, unchanged, kept_on}

-- ---- cells

-- a cell of an active frame
pub placed : (table : List FrameRow) (history : List RunEvent) (frame offset size : ℕ) (row : FrameRow)
    → slice_get table frame ≡ Some row → is_active row.owner history ≡ true
    → offset * 8 + size ≤ row.bits → IsPlaced (shapes_of table) history frame offset size
placed table history frame offset size row at active room =
    let shape : FrameRow → FrameShape = λ (r : FrameRow). record { owner = r.owner; bits = r.bits } in
    record { row = shape row; found = slice_get-map shape table frame ∙ ap (option_map shape) at; runs = active; fits = le-leb (offset * 8 + size) row.bits room }

one_placed : (rows : List FrameShape) (history : List RunEvent) (frame offset size : ℕ)
    → IsPlaced rows history frame offset size → (cell : ℕ × ℕ) → Contains ((frame, offset) ∷ []) cell
    → IsPlaced rows history cell.0 cell.1 size
one_placed rows history frame offset size p cell among =
    first_or_further (frame, offset) [] cell among (λ same. subst (λ (c : ℕ × ℕ). IsPlaced rows history c.0 c.1 size) same p) (λ none. no_member cell none)

-- a value stored in such a cell
pub filled_told : (Sharp : Type 0) (rows : List FrameShape) (m : Mem abstract_sets) (history : List RunEvent) (frame offset size : ℕ) (v : AbstractValue) (value : Value) → Stands Sharp rows m history
    → IsPlaced rows history frame offset size → IsCell size → IsValue size v → ValueTold Sharp v value → FitsValue size value
    → Stands Sharp rows (filled m frame offset size v) (Store frame offset size value ∷ history)
filled_told Sharp rows m history frame offset size v value stands p is of_v told fits = record {
  sound = (fits, stands.sound);
  sized = store_sized abstract_sets abstract_is_sets m ((frame, offset) ∷ []) size v stands.sized is of_v;
  covers =
      store_covers abstract_sets abstract_is_sets rows m history ((frame, offset) ∷ []) frame offset size v value stands.sound stands.sized stands.covers is of_v told.covers fits
      (one_placed rows history frame offset size p) (first_member (frame, offset) []);
  sharp = λ sharp.
      memory_stays_sharp abstract_sets abstract_is_sets rows m history frame offset size v value stands.sound stands.sized (stands.sharp sharp) is of_v (told.only sharp) fits p;
}

pub filled_kept : (m : Mem abstract_sets) (frame offset size : ℕ) (v : AbstractValue) → MemSized abstract_sets m
    → IsCell size → IsValue size v → Kept m (filled m frame offset size v)
filled_kept m frame offset size v sized is of_v = record { sized = store_sized abstract_sets abstract_is_sets m ((frame, offset) ∷ []) size v sized is of_v; runs = refl }

-- ---- arguments

-- a value of a run for the frame of an argument
pub record ArgumentFits (table : List FrameRow) (k f : ℕ) (value : Value) : Type 0 where
  pub arg : NumberedExpression
  pub keeps : ArgumentKeeps table k f arg
  pub fits : FitsValue keeps.row.bits value

-- each frame is one of the function
abbrev pub AreOf : List FrameRow → ℕ → List ℕ → Type 0
AreOf table f args = (frame : ℕ) → Contains args frame → IsFrameOf table (Some f) frame

rest_of : (table : List FrameRow) (f frame : ℕ) (args : List ℕ) → AreOf table f (frame ∷ args) → AreOf table f args
rest_of table f frame args are other among = are other (further_member frame args other among)

module _ (table : List FrameRow) (k f : ℕ) where
  arguments_told : (Sharp : Type 0) (args : List ℕ) (vs : List AbstractValue) (values : List Value) (m : Mem abstract_sets) (history : List RunEvent) → is_running history f ≡ true → AreOf table f args
      → AllZip (ArgumentIs table k) args vs → AllZip (ArgumentFits table k) args values → AllTold Sharp vs values → Stands Sharp (shapes_of table) m history
      → Stands Sharp (shapes_of table) (with_arguments args vs m) (runs.with_arguments args values history)
  arguments_told Sharp [] vs values m history running are is fits told stands = stands
  arguments_told Sharp (frame ∷ args) [] values m history running are is fits told stands = absurd is
  arguments_told Sharp (frame ∷ args) (v ∷ vs) [] m history running are is fits told stands = absurd fits
  arguments_told Sharp (frame ∷ args) (v ∷ vs) (value ∷ values) m history running are is fits told stands =
      let own = are frame (first_member frame args) in
      let given = fits.0 in
      let same : own.row ≡ given.keeps.row = same_Some own.row given.keeps.row (sym own.at ∙ given.keeps.at) in
      let taken : is.0.keeps.row ≡ given.keeps.row = same_Some is.0.keeps.row given.keeps.row (sym is.0.keeps.at ∙ given.keeps.at) in
      let size_is : given.keeps.row.bits ≡ size_of value = sym (own_size given.keeps.row.bits value given.fits) in
      let owner : given.keeps.row.owner ≡ Some f = ap (λ (r : FrameRow). r.owner) (sym same) ∙ own.owned in
      let active : is_active given.keeps.row.owner history ≡ true = ap (λ (o : Option ℕ). is_active o history) owner ∙ running in
      let p = placed table history frame 0 (size_of value) given.keeps.row given.keeps.at active (omega (arith, size_is)) in
      let of_v : IsValue (size_of value) v = subst (λ (s : ℕ). IsValue s v) (ap (λ (r : FrameRow). r.bits) taken ∙ size_is) is.0.is in
      let cell : IsCell (size_of value) = subst IsCell size_is (cell_size given.keeps.row.bits given.keeps.cell) in
      let next = filled_told Sharp (shapes_of table) m history frame 0 (size_of value) v value stands p cell of_v told.0 (own_fits given.keeps.row.bits value given.fits) in
      let here = subst (λ (s : ℕ). Stands Sharp (shapes_of table) (filled m frame 0 s v) (Store frame 0 (size_of value) value ∷ history)) (sym (width_is (size_of value) v of_v)) next in
      arguments_told Sharp args vs values (filled m frame 0 (width_of v) v) (Store frame 0 (size_of value) value ∷ history) running (rest_of table f frame args are) is.1 fits.1 told.1 here

  arguments_run : (args : List ℕ) (values : List Value) (history : List RunEvent)
      → is_running (runs.with_arguments args values history) f ≡ is_running history f
  arguments_run [] values history = refl
  arguments_run (frame ∷ args) [] history = refl
  arguments_run (frame ∷ args) (value ∷ values) history = arguments_run args values (Store frame 0 (size_of value) value ∷ history)

  arguments_kept : (args : List ℕ) (vs : List AbstractValue) (m : Mem abstract_sets)
      → AllZip (ArgumentIs table k) args vs → MemSized abstract_sets m → Kept m (with_arguments args vs m)
  arguments_kept [] vs m is sized = unchanged m sized
  arguments_kept (frame ∷ args) [] m is sized = absurd is
  arguments_kept (frame ∷ args) (v ∷ vs) m is sized =
      let size = is.0.keeps.row.bits in
      let cell = cell_size size is.0.keeps.cell in
      let one : Kept m (filled m frame 0 (width_of v) v) = subst (λ (s : ℕ). Kept m (filled m frame 0 s v)) (sym (width_is size v is.0.is)) (filled_kept m frame 0 size v sized cell is.0.is) in
      kept_on m (filled m frame 0 (width_of v) v) (with_arguments args vs (filled m frame 0 (width_of v) v)) one (arguments_kept args vs (filled m frame 0 (width_of v) v) is.1 one.sized)

-- ---- what frames hold at first

active_on : (owner : Option ℕ) (frame offset size : ℕ) (value : Value) (history : List RunEvent)
    → is_active owner history ≡ true → is_active owner (Store frame offset size value ∷ history) ≡ true
active_on None frame offset size value history active = refl
active_on (Some f) frame offset size value history active = active

module _ (table : List FrameRow) (owner : Option ℕ) where
  pub inits_told : (Sharp : Type 0) (inits : List InitRow) (m : Mem abstract_sets) (history : List RunEvent)
      → is_active owner history ≡ true → All (InitFits table owner) inits
      → Stands Sharp (shapes_of table) m history → Stands Sharp (shapes_of table) (with_inits inits m) (runs.with_inits inits history)
  inits_told Sharp [] m history active fit stands = stands
  inits_told Sharp (init ∷ inits) m history active fit stands =
      let own = All-head (InitFits table owner) init inits fit in
      let here : is_active own.row.owner history ≡ true = ap (λ (o : Option ℕ). is_active o history) own.owned ∙ active in
      let lies = own.lies in
      let p = placed table history init.frame init.offset init.num.size own.row own.at here (omega (arith, lies)) in
      let size = word_size init.num.size own.word.sized in
      inits_told Sharp inits (filled m init.frame init.offset init.num.size (word_value init.num.size init.num.bits))
      (Store init.frame init.offset init.num.size (Int init.num.size init.num.bits) ∷ history)
      (active_on owner init.frame init.offset init.num.size (Int init.num.size init.num.bits) history active)
      (All-tail (InitFits table owner) init inits fit)
      (filled_told Sharp (shapes_of table) m history init.frame init.offset init.num.size (word_value init.num.size init.num.bits) (Int init.num.size init.num.bits) stands p
      (cell_size init.num.size own.cell) (word_is init.num.size init.num.bits size own.word.fits) (word_told Sharp init.num.size init.num.bits size own.word.fits) (refl, own.word.fits))

  inits_run : (inits : List InitRow) (history : List RunEvent) → is_active owner history ≡ true
      → is_active owner (runs.with_inits inits history) ≡ true
  inits_run [] history active = active
  inits_run (init ∷ inits) history active =
      inits_run inits (Store init.frame init.offset init.num.size (Int init.num.size init.num.bits) ∷ history)
      (active_on owner init.frame init.offset init.num.size (Int init.num.size init.num.bits) history active)

  pub inits_kept : (inits : List InitRow) (m : Mem abstract_sets) → All (InitFits table owner) inits
      → MemSized abstract_sets m → Kept m (with_inits inits m)
  inits_kept [] m fit sized = unchanged m sized
  inits_kept (init ∷ inits) m fit sized =
      let own = All-head (InitFits table owner) init inits fit in
      let size = word_size init.num.size own.word.sized in
      let v = word_value init.num.size init.num.bits in
      let one = filled_kept m init.frame init.offset init.num.size v sized (cell_size init.num.size own.cell) (word_is init.num.size init.num.bits size own.word.fits) in
      kept_on m (filled m init.frame init.offset init.num.size v) (with_inits inits (filled m init.frame init.offset init.num.size v)) one
      (inits_kept inits (filled m init.frame init.offset init.num.size v) (All-tail (InitFits table owner) init inits fit) one.sized)

-- ---- functions entered

-- the memory after the function is entered
entered_stands : (Sharp : Type 0) (rows : List FrameShape) (m : Mem abstract_sets) (history : List RunEvent) (f : ℕ)
    → Stands Sharp rows m history
    → Stands Sharp rows (entered abstract_sets rows m f) (Enter f ∷ history)
entered_stands Sharp rows m history f stands = record {
  sound = stands.sound;
  sized = enter_sized abstract_sets abstract_is_sets rows m f stands.sized;
  covers = enter_covers abstract_sets abstract_is_sets rows m history f stands.sound stands.sized stands.covers;
  sharp = λ sharp. sharp_enter abstract_sets abstract_is_sets rows m history f stands.sound stands.sized (stands.sharp sharp);
}

module _ (program : NumberedProgram) (keeps : IsKept program) (f : ℕ) (function : NumberedFunction) (at : slice_get program.funcs f ≡ Some function) where
  -- the frames of the arguments are the function's
  pub args_of : AreOf program.frames f function.args
  args_of frame among =
      let own = keeps.functions f function at in
      All-contains (IsFrameOf program.frames (Some f)) function.frames frame own.owned
      (subst (λ (frames : List ℕ). Contains frames frame) (sym own.arguments_first) (Contains-append_left function.args own.others frame among))

  args_are : args_at program f ≡ function.args
  args_are = ap (λ (o : Option NumberedFunction). option_map_or (λ (g : NumberedFunction). g.args) o []) at

  inits_are : inits_at program f ≡ function.inits
  inits_are = ap (λ (o : Option NumberedFunction). option_map_or (λ (g : NumberedFunction). g.inits) o []) at

  running_in : (history : List RunEvent) → is_running (Enter f ∷ history) f ≡ true
  running_in history = rw (eq-eqb f f refl) refl

  -- a function entered with its arguments
  pub entered_told : (Sharp : Type 0) (k : ℕ) (vs : List AbstractValue) (values : List Value) (m : Mem abstract_sets) (history : List RunEvent) → AllZip (ArgumentIs program.frames k) function.args vs
      → AllZip (ArgumentFits program.frames k) function.args values → AllTold Sharp vs values → Stands Sharp (frames_of program) m history
      → Stands Sharp (frames_of program) (entered_with program f vs m) (runs.entered program f values history)
  entered_told Sharp k vs values m history is fits told stands =
      rw (args_are, inits_are)
      (inits_told program.frames (Some f) Sharp function.inits (with_arguments function.args vs (entered abstract_sets (frames_of program) m f)) (runs.with_arguments function.args values (Enter f ∷ history))
      (arguments_run program.frames k f function.args values (Enter f ∷ history) ∙ running_in history)
      ((keeps.functions f function at).inits)
      (arguments_told program.frames k f Sharp function.args vs values (entered abstract_sets (frames_of program) m f) (Enter f ∷ history) (running_in history) args_of is fits told
      (entered_stands Sharp (frames_of program) m history f stands)))

  -- the sizes, and the functions that run
  pub entered_kept : (k : ℕ) (vs : List AbstractValue) (m : Mem abstract_sets)
      → AllZip (ArgumentIs program.frames k) function.args vs → MemSized abstract_sets m
      → Kept (entered abstract_sets (frames_of program) m f) (entered_with program f vs m)
  entered_kept k vs m is sized =
      rw (args_are, inits_are)
      (let inside = entered abstract_sets (frames_of program) m f in
      let first = arguments_kept program.frames k f function.args vs inside is (enter_sized abstract_sets abstract_is_sets (frames_of program) m f sized) in
      kept_on inside (with_arguments function.args vs inside) (with_inits function.inits (with_arguments function.args vs inside)) first
      (inits_kept program.frames (Some f) function.inits (with_arguments function.args vs inside) ((keeps.functions f function at).inits) first.sized))

  -- the same without arguments, as the root is entered
  no_arguments : (args : List ℕ) (m : Mem abstract_sets) → with_arguments args [] m ≡ m
  no_arguments [] m = refl
  no_arguments (frame ∷ args) m = refl

  no_arguments_run : (args : List ℕ) (history : List RunEvent) → runs.with_arguments args [] history ≡ history
  no_arguments_run [] history = refl
  no_arguments_run (frame ∷ args) history = refl

  pub entered_inits : (Sharp : Type 0) (m : Mem abstract_sets) (history : List RunEvent)
      → Stands Sharp (frames_of program) m history
      → Stands Sharp (frames_of program) (entered_with program f [] m) (runs.entered program f [] history) × (is_running (runs.entered program f [] history) f ≡ true)
  entered_inits Sharp m history stands =
      rw (args_are, inits_are, no_arguments function.args (entered abstract_sets (frames_of program) m f), no_arguments_run function.args (Enter f ∷ history)) (
        inits_told program.frames (Some f) Sharp function.inits (entered abstract_sets (frames_of program) m f) (Enter f ∷ history) (running_in history) ((keeps.functions f function at).inits)
            (entered_stands Sharp (frames_of program) m history f stands),
        inits_run program.frames (Some f) function.inits (Enter f ∷ history) (running_in history),
      )

  pub entered_inits_kept : (m : Mem abstract_sets) → MemSized abstract_sets m
      → Kept (entered abstract_sets (frames_of program) m f) (entered_with program f [] m)
  entered_inits_kept m sized =
      rw (args_are, inits_are, no_arguments function.args (entered abstract_sets (frames_of program) m f))
      (inits_kept program.frames (Some f) function.inits (entered abstract_sets (frames_of program) m f) ((keeps.functions f function at).inits)
      (enter_sized abstract_sets abstract_is_sets (frames_of program) m f sized))
