-- How statements, calls and starts make a history grow.
--   Grown old new        the new history runs the same functions, and its values fit
--   own_size             a value that fits fits its own size
--   AllFit values        each value fits its own size
--   stored_grown, statements_grown   a store grows a history, and so do statements
--   arguments_fit        the values of a call's arguments fit
--   entered_runs, entered_sound      a function that is entered runs, and the values that it starts with fit
use Rattle.std.proofs.Common.{◌≡◌, ◌<◌, ◌^◌, ℕ, true, false, List, [], ◌∷◌, map, Option, Some, None, Result, Ok, Err, All, refl, sym, ap, ◌∙◌, subst}
use Rattle.std.specs.Prelude.{◌==◌, if◌then◌else◌, slice_get, ⊤}
use Rattle.std.specs.List.{AllZip}
use Rattle.std.specs.Option.{option_map_or}
use Rattle.std.proofs.lemmas.List.Elements.{All-nil, All-head, All-tail}
use Rattle.alf_ops.specs.declared.history.Value.{Value}
use Rattle.alf_ops.specs.declared.history.Value.TheVariants.{Int, Ptr}
use Rattle.alf_ops.specs.declared.history.RunFault.{RunFault}
use Rattle.alf_ops.specs.declared.history.FrameShape.{FrameShape}
use Rattle.alf_ops.specs.declared.history.RunEvent.{RunEvent}
use Rattle.alf_ops.specs.declared.history.RunEvent.TheVariants.{Enter}
use Rattle.alf_ops.specs.declared.history.RunEvent.TheVariants as events
use Rattle.alf_ops.specs.Values.{FitsValue, size_of}
use Rattle.alf_ops.specs.Histories as histories
use Rattle.alf_ops.specs.Histories.{is_running, IsSoundHistory, store, stored, address_of}
use Rattle.alf_ops.specs.Pointers.{operands}
use Rattle.alf_ops.specs.PointerLaws.{OutcomeFits}
use Rattle.alf_ops.specs.HistoryLaws.{LoadFits, StoreKeepsSound}
use Rattle.alf_program.specs.Tree.{NumberedExpression}
use Rattle.alf_check.specs.declared.rows.FrameRow.{FrameRow}
use Rattle.alf_check.specs.declared.rows.InitRow.{InitRow}
use Rattle.alf_check.specs.declared.rows.InputRow.{InputRow}
use Rattle.alf_check.specs.CheckedPrograms.{NumberedStatement, Null, Store, NumberedFunction, NumberedProgram}
use Rattle.alf_check.specs.Kept.{IsKept, KeepsStatement, ArgumentKeeps, InitFits}
use Rattle.alf_runs.specs.Expressions.{value_of}
use Rattle.alf_runs.specs.Statements.{after_store, after_statement, after_statements}
use Rattle.alf_runs.specs.Entering.{with_arguments, with_inits, inits_at, args_at, entered}
use Rattle.alf_runs.specs.Starts.{with_inputs}
use Rattle.alf_runs.specs.Places.{AreWords}
use Rattle.alf_runs.proofs.Sizes.{row_of, value_fits}

-- what alf_ops promises of operators, loads and stores
pub record Promised : Type 0 where
  pub outcomes : OutcomeFits
  pub loads : LoadFits
  pub stores : StoreKeepsSound

-- the new history runs the same functions, and its values fit
pub record Grown (old new : List RunEvent) : Type 0 where
  pub runs : (f : ℕ) → is_running new f ≡ is_running old f
  pub sound : IsSoundHistory new

-- a value that fits fits its own size
pub own_size : (size : ℕ) (value : Value) → FitsValue size value → FitsValue (size_of value) value
own_size size (Int own word) fits = (refl, subst (λ n. word < 2 ^ n) (sym fits.0) fits.1)
own_size size (Ptr frame offset) fits = (refl, fits.1)

-- ---- stores

-- a store runs the same functions
stored_runs : (history new : List RunEvent) (value : Value) (r : Result histories.Address RunFault)
    → stored history value r ≡ Ok new → (f : ℕ) → is_running new f ≡ is_running history f
stored_runs history new value (Ok address) is f =
    let e : events.Store address.frame address.offset (size_of value) value ∷ history ≡ new = cc in sym (ap (λ (h : List RunEvent). is_running h f) e)
stored_runs history new value (Err fault) is f = cc

pub stored_grown : Promised → (frames : List FrameShape) (history new : List RunEvent) (place value : Value)
    → IsSoundHistory history → FitsValue (size_of value) value → store frames history place value ≡ Ok new → Grown history new
stored_grown promised frames history new place value sound fits is = record {
  runs = stored_runs history new value (address_of frames history place (size_of value)) is;
  sound = promised.stores frames history new place value sound fits is;
}

-- a store of an expression's value grows the history
after_store_grown : Promised
    → (frames : List FrameShape) (history new : List RunEvent) (place value : Result Value RunFault)
    → IsSoundHistory history → ((v : Value) → value ≡ Ok v → FitsValue (size_of v) v) → after_store frames history place value ≡ Ok new → Grown history new
after_store_grown promised frames history new (Ok at) (Ok v) sound fits is = stored_grown promised frames history new at v sound (fits v refl) is
after_store_grown promised frames history new (Err fault) value sound fits is = cc
after_store_grown promised frames history new (Ok at) (Err fault) sound fits is = cc

-- ---- statements

statement_grown : Promised
    → (rows : List FrameRow) (k : ℕ) (frames : List FrameShape) (history new : List RunEvent) (s : NumberedStatement)
    → IsSoundHistory history → KeepsStatement rows k s → after_statement frames s history ≡ Ok new → Grown history new
statement_grown promised rows k frames history new Null sound keeps is =
    let e : history ≡ new = cc in record { runs = λ f. sym (ap (λ (h : List RunEvent). is_running h f) e); sound = subst IsSoundHistory e sound }
statement_grown promised rows k frames history new (Store to value) sound keeps is =
    after_store_grown promised frames history new (value_of frames history to) (value_of frames history value) sound
    (λ v given. own_size keeps.stored.size v (value_fits promised.outcomes promised.loads rows k frames history sound value keeps.stored.size v keeps.stored.value_has given)) is

pub statements_grown : Promised → (rows : List FrameRow) (k : ℕ) (frames : List FrameShape) (history new : List RunEvent) (ss : List NumberedStatement)
    → IsSoundHistory history → All (KeepsStatement rows k) ss → after_statements frames ss (Ok history) ≡ Ok new → Grown history new
statements_grown promised rows k frames history new [] sound keeps is =
    let e : history ≡ new = cc in record { runs = λ f. sym (ap (λ (h : List RunEvent). is_running h f) e); sound = subst IsSoundHistory e sound }
statements_grown promised rows k frames history new (s ∷ ss) sound keeps is =
    go (after_statement frames s history) refl is (λ middle grown. statements_grown promised rows k frames middle new ss grown.sound (All-tail (KeepsStatement rows k) s ss keeps))
  where
    go : (r : Result (List RunEvent) RunFault) → after_statement frames s history ≡ r
        → after_statements frames ss r ≡ Ok new
        → ((middle : List RunEvent) → Grown history middle → after_statements frames ss (Ok middle) ≡ Ok new → Grown middle new) → Grown history new
    go (Ok middle) first rest further =
        let grown = statement_grown promised rows k frames history middle s sound (All-head (KeepsStatement rows k) s ss keeps) first in
        let more = further middle grown rest in
        record { runs = λ f. more.runs f ∙ grown.runs f; sound = more.sound }
    go (Err fault) first rest further = cc

-- ---- arguments

-- each value fits its own size
abbrev pub AllFit : List Value → Type 0
AllFit [] = ⊤
AllFit (value ∷ values) = FitsValue (size_of value) value × AllFit values

-- the values of a call's arguments fit
pub arguments_fit : Promised → (rows : List FrameRow) (k : ℕ) (frames : List FrameShape) (history : List RunEvent) (args : List ℕ) (es : List NumberedExpression) (values : List Value)
    → IsSoundHistory history → AllZip (ArgumentKeeps rows k) args es → operands (map (value_of frames history) es) ≡ Ok values → AllFit values
arguments_fit promised rows k frames history [] [] values sound keep are = let e : [] ≡ values = cc in subst AllFit e tt
arguments_fit promised rows k frames history [] (e ∷ es) values sound keep are = absurd keep
arguments_fit promised rows k frames history (arg ∷ args) [] values sound keep are = absurd keep
arguments_fit promised rows k frames history (arg ∷ args) (e ∷ es) values sound keep are =
    let row = row_of (value_of frames history e) (map (value_of frames history) es) values are in
    subst AllFit row.all (
      own_size keep.0.row.bits row.value (value_fits promised.outcomes promised.loads rows k frames history sound e keep.0.row.bits row.value keep.0.value_has row.first_is),
      arguments_fit promised rows k frames history args es row.others sound keep.1 row.rest_are,
    )

-- ---- functions entered

arguments_run : (args : List ℕ) (values : List Value) (history : List RunEvent) (f : ℕ)
    → is_running (with_arguments args values history) f ≡ is_running history f
arguments_run [] values history f = refl
arguments_run (arg ∷ args) [] history f = refl
arguments_run (arg ∷ args) (value ∷ values) history f = arguments_run args values (events.Store arg 0 (size_of value) value ∷ history) f

arguments_sound : (args : List ℕ) (values : List Value) (history : List RunEvent) → AllFit values → IsSoundHistory history
    → IsSoundHistory (with_arguments args values history)
arguments_sound [] values history fit sound = sound
arguments_sound (arg ∷ args) [] history fit sound = sound
arguments_sound (arg ∷ args) (value ∷ values) history fit sound = arguments_sound args values (events.Store arg 0 (size_of value) value ∷ history) fit.1 (fit.0, sound)

-- what a frame holds at first is a word of its size
abbrev pub FitsWord : InitRow → Type 0
FitsWord init = init.num.bits < 2 ^ init.num.size

inits_run : (inits : List InitRow) (history : List RunEvent) (f : ℕ)
    → is_running (with_inits inits history) f ≡ is_running history f
inits_run [] history f = refl
inits_run (init ∷ inits) history f = inits_run inits (events.Store init.frame init.offset init.num.size (Int init.num.size init.num.bits) ∷ history) f

inits_sound : (inits : List InitRow) (history : List RunEvent) → All FitsWord inits → IsSoundHistory history
    → IsSoundHistory (with_inits inits history)
inits_sound [] history fit sound = sound
inits_sound (init ∷ inits) history fit sound =
    inits_sound inits (events.Store init.frame init.offset init.num.size (Int init.num.size init.num.bits) ∷ history)
    (All-tail FitsWord init inits fit) ((refl, All-head FitsWord init inits fit), sound)

-- words that the checks keep fit
words_kept : (rows : List FrameRow) (owner : Option ℕ) (inits : List InitRow) → All (InitFits rows owner) inits
    → All FitsWord inits
words_kept rows owner inits keep = λ k d low. (keep k d low).word.fits

inits_kept : (program : NumberedProgram) → IsKept program → (f : ℕ) → All FitsWord (inits_at program f)
inits_kept program kept f = go (slice_get program.funcs f) refl
  where
    go : (o : Option NumberedFunction) → slice_get program.funcs f ≡ o
        → All FitsWord (option_map_or (λ function. function.inits) o [])
    go None found = All-nil FitsWord
    go (Some function) found = words_kept program.frames (Some f) function.inits (kept.functions f function found).inits

-- a function that is entered runs, and all others do as before
pub entered_runs : (program : NumberedProgram) (f : ℕ) (values : List Value) (history : List RunEvent) (g : ℕ)
    → is_running (entered program f values history) g ≡ (if f == g then true else is_running history g)
entered_runs program f values history g =
    inits_run (inits_at program f) (with_arguments (args_at program f) values (Enter f ∷ history)) g ∙ arguments_run (args_at program f) values (Enter f ∷ history) g

-- and the values that it starts with fit
pub entered_sound : (program : NumberedProgram) → IsKept program
    → (f : ℕ) (values : List Value) (history : List RunEvent)
    → AllFit values → IsSoundHistory history → IsSoundHistory (entered program f values history)
entered_sound program kept f values history fit sound =
    inits_sound (inits_at program f) (with_arguments (args_at program f) values (Enter f ∷ history)) (inits_kept program kept f)
    (arguments_sound (args_at program f) values (Enter f ∷ history) fit sound)

-- ---- starts

-- what global frames hold at first grows no running function, and fits
pub globals_run : (program : NumberedProgram) (f : ℕ) → is_running (with_inits program.inits []) f ≡ false
globals_run program f = inits_run program.inits [] f

pub globals_sound : (program : NumberedProgram) → IsKept program → IsSoundHistory (with_inits program.inits [])
globals_sound program kept = inits_sound program.inits [] (words_kept program.frames None program.inits kept.inits) tt

pub inputs_run : (rows : List InputRow) (words : List ℕ) (history : List RunEvent) (f : ℕ)
    → is_running (with_inputs rows words history) f ≡ is_running history f
inputs_run [] words history f = refl
inputs_run (row ∷ rows) [] history f = refl
inputs_run (row ∷ rows) (word ∷ words) history f = inputs_run rows words (events.Store row.frame row.offset row.size (Int row.size word) ∷ history) f

pub inputs_sound : (rows : List InputRow) (words : List ℕ) (history : List RunEvent) → AreWords rows words
    → IsSoundHistory history → IsSoundHistory (with_inputs rows words history)
inputs_sound [] words history fit sound = sound
inputs_sound (row ∷ rows) [] history fit sound = sound
inputs_sound (row ∷ rows) (word ∷ words) history fit sound =
    inputs_sound rows words (events.Store row.frame row.offset row.size (Int row.size word) ∷ history) fit.1 ((refl, fit.0), sound)
