-- Wherever a run of a checked program stands, the law of places holds.
--   Stands program path place history   the law of places, with the functions that run told by a test
--   IsSafe program moment               it holds at a node, and an end is one that some rule gives
--   step_safe                           a step leads from such a place to another, or to an end that some rule gives
--   start_stands                        a run starts at one
use Rattle.std.proofs.Common.{◌≡◌, ◌<◌, ℕ, Bool, true, false, List, [], ◌∷◌, map, Option, Some, None, Result, Ok, Err, All, refl, sym, ap, ◌∙◌, subst, inl, inr, arith}
use Rattle.std.specs.Prelude.{◌==◌, if◌then◌else◌, slice_get, ⊤, length}
use Rattle.std.specs.Option.{option_map, option_map_or}
use Rattle.std.proofs.lemmas.Bool.{eqb-true}
use Rattle.std.proofs.lemmas.Option.{slice_get_cases, none-some}
use Rattle.std.proofs.lemmas.List.Elements.{All-head, All-tail}
use Rattle.alf_ops.specs.declared.history.Value.{Value}
use Rattle.alf_ops.specs.declared.history.Value.TheVariants.{Int, Ptr}
use Rattle.alf_ops.specs.declared.history.RunFault.{RunFault}
use Rattle.alf_ops.specs.declared.history.RunEvent.{RunEvent}
use Rattle.alf_ops.specs.declared.history.RunEvent.TheVariants.{Leave}
use Rattle.alf_ops.specs.Values.{FitsValue, size_of}
use Rattle.alf_ops.specs.Histories.{is_running, IsSoundHistory, store}
use Rattle.alf_ops.specs.Pointers.{operands}
use Rattle.alf_program.specs.Tree.{NumberedExpression}
use Rattle.alf_check.specs.declared.rows.FrameRow.{FrameRow}
use Rattle.alf_check.specs.declared.rows.InputRow.{InputRow}
use Rattle.alf_check.specs.CheckedPrograms.{BlockEnding, Fall, Jump, Switch, Call, Return, NumberedBlock, NumberedFunction, NumberedProgram, blocks_at}
use Rattle.alf_check.specs.Kept.{IsKept, IsBlockOf, KeepsEnding, TargetKeeps, Gives}
use Rattle.flow_graph.specs.Nodes.{ending_at, function_at}
use Rattle.alf_runs.specs.Expressions.{value_of}
use Rattle.alf_runs.specs.Statements.{after_statements}
use Rattle.alf_runs.specs.Entering.{with_inits, entered}
use Rattle.alf_runs.specs.Outcomes.{Ended, Faulted, Lost}
use Rattle.alf_runs.specs.Steps.{Moment, At, Over, frames_of, target_of, switch_step, call_step, move_on, result_step, go_back, leave, return_step, ending_step, then_ending, block_step, node_step}
use Rattle.alf_runs.specs.Starts.{start_history}
use Rattle.alf_runs.specs.Places.{functions_on, IsCall, IsCallPath, HasPlace, AreWords}
use Rattle.alf_runs.proofs.Sizes.{value_fits}
use Rattle.alf_runs.proofs.Paths.{is_among, keeps_block, call_on, newest_is_new}
use Rattle.alf_runs.proofs.Growing.{Promised, Grown, own_size, AllFit, stored_grown, statements_grown, arguments_fit, entered_runs, entered_sound, globals_run, globals_sound, inputs_run, inputs_sound}
use Rattle.lists.specs.TestLaws.{by_test}

-- the law of places, with the functions that run told by a test
pub record Stands (program : NumberedProgram) (path : List ℕ) (place : Option ℕ)
    (history : List RunEvent) : Type 0 where
  pub calls : IsCallPath program path
  pub there : HasPlace program path place
  pub runs : (f : ℕ) → is_running history f ≡ is_among f (functions_on program path)
  pub sound : IsSoundHistory history

-- it holds at a node, and an end is one that some rule gives
abbrev pub IsSafe : NumberedProgram → Moment → Type 0
IsSafe program (At node history) = Stands program node.path node.block history
IsSafe program (Over (Ended outputs)) = ⊤
IsSafe program (Over (Faulted fault)) = ⊤
IsSafe program (Over Lost) = ⊥

-- ---- within an instance

-- on to a block of the same instance
on_to : (program : NumberedProgram) (path : List ℕ) (place : Option ℕ) (history : List RunEvent) (to : ℕ)
    → Stands program path place history
    → IsBlockOf program (function_at program path) to → Stands program path (Some to) history
on_to program path place history to stands there = record { calls = stands.calls; there = there; runs = stands.runs; sound = stands.sound }

-- the history grew, in the same place
grown_on : (program : NumberedProgram) (path : List ℕ) (place : Option ℕ) (history new : List RunEvent)
    → Stands program path place history → Grown history new → Stands program path place new
grown_on program path place history new stands grown = record { calls = stands.calls; there = stands.there; runs = λ f. grown.runs f ∙ stands.runs f; sound = grown.sound }

target_there : (program : NumberedProgram) (k size : ℕ) (targets : List (ℕ × ℕ)) (others word : ℕ)
    → All (TargetKeeps program k size) targets → IsBlockOf program k others
    → IsBlockOf program k (target_of targets others word)
target_there program k size [] others word keep there = there
target_there program k size (target ∷ targets) others word keep there = by_test (target.0 == word)
    (λ first. rw first ((All-head (TargetKeeps program k size) target targets keep).there))
    (λ further. rw further (target_there program k size targets others word (All-tail (TargetKeeps program k size) target targets keep) there))

switch_safe : (program : NumberedProgram) (path : List ℕ) (place : Option ℕ) (size : ℕ) (targets : List (ℕ × ℕ)) (others : ℕ) (history : List RunEvent) (r : Result Value RunFault)
    → Stands program path place history → All (TargetKeeps program (function_at program path) size) targets → IsBlockOf program (function_at program path) others
    → IsSafe program (switch_step path targets others history r)
switch_safe program path place size targets others history (Ok (Int own word)) stands keep there =
    on_to program path place history (target_of targets others word) stands (target_there program (function_at program path) size targets others word keep there)
switch_safe program path place size targets others history (Ok (Ptr frame offset)) stands keep there = tt
switch_safe program path place size targets others history (Err fault) stands keep there = tt

-- ---- calls

call_safe : (program : NumberedProgram) → IsKept program → (path : List ℕ) (place : Option ℕ) (b : ℕ) (call : IsCall program path b) (history : List RunEvent) (r : Result (List Value) RunFault)
    → Stands program path place history → ((values : List Value) → r ≡ Ok values → AllFit values) → IsSafe program (call_step program path b call.func history r)
call_safe program kept path place b call history (Ok values) stands fit = record {
  calls = (call, stands.calls);
  there = tt;
  runs = λ f. entered_runs program call.func values history f
      ∙ ap (λ (others : Bool). if call.func == f then true else others) (stands.runs f)
      ∙ ap (λ (g : ℕ). if g == f then true else is_among f (functions_on program path)) (sym (call_on program kept path b call).enters);
  sound = entered_sound program kept call.func values history (fit values refl) stands.sound;
}
call_safe program kept path place b call history (Err fault) stands fit = tt

-- ---- returns

-- a return of this expression is the ending of a block of function k
pub record IsReturn (program : NumberedProgram) (k : ℕ) (returned : Option NumberedExpression) : Type 0 where
  pub b : ℕ
  pub block : NumberedBlock
  pub at : slice_get (blocks_at program k) b ≡ Some block
  pub returns : block.ending ≡ Return returned

-- what is given is a value of the expression that is returned, if there is one
abbrev IsGiven : Option NumberedExpression → Option Value → Type 0
IsGiven None None = ⊤
IsGiven None (Some value) = ⊥
IsGiven (Some e) None = ⊥
IsGiven (Some e) (Some value) = FitsValue (size_of value) value

-- a result is wanted where one is given
abbrev IsWanted : Option (ℕ × ℕ) → Option Value → Type 0
IsWanted None None = ⊤
IsWanted None (Some value) = ⊥
IsWanted (Some to) None = ⊥
IsWanted (Some to) (Some value) = FitsValue (size_of value) value

wanted : (rows : List FrameRow) (f : ℕ) (result : Option (ℕ × ℕ)) (returned : Option NumberedExpression) (value : Option Value)
    → Gives rows f result returned → IsGiven returned value → IsWanted result value
wanted rows f None None None gives given = tt
wanted rows f None None (Some value) gives given = absurd given
wanted rows f None (Some e) value gives given = absurd gives
wanted rows f (Some to) None value gives given = absurd gives
wanted rows f (Some to) (Some e) None gives given = absurd given
wanted rows f (Some to) (Some e) (Some value) gives given = given

-- the result is stored, if one is wanted, and the run moves on to the block after the call
result_safe : Promised → (program : NumberedProgram) (path : List ℕ) (next : ℕ) (result : Option (ℕ × ℕ)) (value : Option Value) (history : List RunEvent)
    → Stands program path (Some next) history → IsWanted result value → IsSafe program (result_step program path next result value history)
result_safe promised program path next None None history stands want = stands
result_safe promised program path next None (Some value) history stands want = absurd want
result_safe promised program path next (Some to) None history stands want = absurd want
result_safe promised program path next (Some to) (Some value) history stands want = go (store (frames_of program) history (Ptr to.0 to.1) value) refl
  where
    go : (r : Result (List RunEvent) RunFault) → store (frames_of program) history (Ptr to.0 to.1) value ≡ r
        → IsSafe program (move_on path next r)
    go (Ok new) is = grown_on program path (Some next) history new stands (stored_grown promised (frames_of program) history new (Ptr to.0 to.1) value stands.sound want is)
    go (Err fault) is = tt

-- after the newest function is left, those before it on the path run
left_runs : (program : NumberedProgram) → IsKept program
    → (path : List ℕ) (b : ℕ) (place : Option ℕ) (history : List RunEvent) → Stands program (b ∷ path) place history
    → (f : ℕ) → is_running (Leave (function_at program (b ∷ path)) ∷ history) f ≡ is_among f (functions_on program path)
left_runs program kept path b place history stands f = by_test (function_at program (b ∷ path) == f)
    (λ same.
    let e : function_at program (b ∷ path) ≡ f = eqb-true (function_at program (b ∷ path)) f same in
    let new : is_among f (functions_on program path) ≡ false = subst (λ g. is_among g (functions_on program path) ≡ false) e (newest_is_new program kept path b stands.calls) in
    rw same (sym new))
    (λ other.
    let before : is_running history f ≡ is_among f (functions_on program (b ∷ path)) = stands.runs f in
    rw other (rw other at before))

-- an instance is left by a return of what is given
leave_safe : Promised → (program : NumberedProgram) → IsKept program → (path : List ℕ) (place : Option ℕ) (returned : Option NumberedExpression) (value : Option Value) (history : List RunEvent)
    → Stands program path place history → IsReturn program (function_at program path) returned → IsGiven returned value → IsSafe program (leave program path value history)
leave_safe promised program kept [] place returned value history stands return given = tt
leave_safe promised program kept (b ∷ path) place returned value history stands return given =
    let call = stands.calls.0 in
    let on = call_on program kept path b call in
    let left : List RunEvent = Leave (function_at program (b ∷ path)) ∷ history in
    let blocks : blocks_at program (function_at program (b ∷ path)) ≡ on.keeps.function.blocks =
    ap (blocks_at program) on.enters ∙ ap (λ (o : Option NumberedFunction). option_map_or (λ function. function.blocks) o []) on.keeps.at in
    let gives = on.keeps.gives return.b return.block returned (subst (λ (bs : List NumberedBlock). slice_get bs return.b ≡ Some return.block) blocks return.at) return.returns in
    subst (λ (ending : Option BlockEnding). IsSafe program (go_back program path ending value left)) (sym call.calls)
    (result_safe promised program path call.next call.result value left
    (record { calls = stands.calls.1; there = on.keeps.goes_on.there; runs = left_runs program kept path b place history stands; sound = stands.sound })
    (wanted program.frames call.func call.result returned value gives given))

-- ---- blocks

return_safe : Promised → (program : NumberedProgram) → IsKept program
    → (path : List ℕ) (place : Option ℕ) (e : NumberedExpression) (history : List RunEvent) (r : Result Value RunFault)
    → Stands program path place history → IsReturn program (function_at program path) (Some e) → ((value : Value) → r ≡ Ok value → FitsValue (size_of value) value)
    → IsSafe program (return_step program path history r)
return_safe promised program kept path place e history (Ok value) stands return fits = leave_safe promised program kept path place (Some e) (Some value) history stands return (fits value refl)
return_safe promised program kept path place e history (Err fault) stands return fits = tt

ending_safe : Promised → (program : NumberedProgram) → IsKept program
    → (path : List ℕ) (b : ℕ) (block : NumberedBlock) (ending : BlockEnding) (history : List RunEvent)
    → Stands program path (Some b) history → slice_get (blocks_at program (function_at program path)) b ≡ Some block → block.ending ≡ ending
    → KeepsEnding program (function_at program path) b ending → IsSafe program (ending_step program path b ending history)
ending_safe promised program kept path b block (Fall next) history stands at is keeps = on_to program path (Some b) history next stands keeps.there
ending_safe promised program kept path b block (Jump to) history stands at is keeps = on_to program path (Some b) history to stands keeps
ending_safe promised program kept path b block (Switch value targets others) history stands at is keeps =
    switch_safe program path (Some b) keeps.size targets others history (value_of (frames_of program) history value) stands keeps.targets_keep keeps.there
ending_safe promised program kept path b block (Call f args result next) history stands at is keeps =
    let calls : ending_at program (function_at program path) b ≡ Some (Call f args result next) =
    ap (option_map (λ (found : NumberedBlock). found.ending)) at ∙ ap (λ (e : BlockEnding). Some e) is in
    call_safe program kept path (Some b) b (record { func = f; args = args; result = result; next = next; calls = calls }) history
    (operands (map (value_of (frames_of program) history) args)) stands
    (λ values are. arguments_fit promised program.frames (function_at program path) (frames_of program) history keeps.function.args args values stands.sound keeps.args_keep are)
ending_safe promised program kept path b block (Return None) history stands at is keeps =
    leave_safe promised program kept path (Some b) None None history stands (record { b = b; block = block; at = at; returns = is }) tt
ending_safe promised program kept path b block (Return (Some e)) history stands at is keeps =
    return_safe promised program kept path (Some b) e history (value_of (frames_of program) history e) stands (record { b = b; block = block; at = at; returns = is })
    (λ value given. own_size keeps.size value
    (value_fits promised.outcomes promised.loads program.frames (function_at program path) (frames_of program) history stands.sound e keeps.size value keeps.gives given))

block_safe : Promised → (program : NumberedProgram) → IsKept program
    → (path : List ℕ) (b : ℕ) (history : List RunEvent) (o : Option NumberedBlock)
    → Stands program path (Some b) history → slice_get (blocks_at program (function_at program path)) b ≡ o → IsSafe program (block_step program path b o history)
block_safe promised program kept path b history None stands none =
    absurd (let blocks = blocks_at program (function_at program path) in
    elim (slice_get_cases blocks b).1 as (λ _. ⊥) [ inl some ↦ none-some some.0 (sym none ∙ some.2) | inr past ↦ (let low = stands.there in let high = past.0 in omega arith) ])
block_safe promised program kept path b history (Some block) stands at = go (after_statements (frames_of program) block.statements (Ok history)) refl
  where
    go : (r : Result (List RunEvent) RunFault) → after_statements (frames_of program) block.statements (Ok history) ≡ r
        → IsSafe program (then_ending program path b block.ending r)
    go (Ok new) is =
        let keeps = keeps_block program kept (function_at program path) b block at in
        let grown = statements_grown promised program.frames (function_at program path) (frames_of program) history new block.statements stands.sound keeps.statements is in
        ending_safe promised program kept path b block block.ending new (grown_on program path (Some b) history new stands grown) at refl keeps.ending
    go (Err fault) is = tt

-- an entry moves on to block 0, which each function has
entry_there : (program : NumberedProgram) → IsKept program → (path : List ℕ) → IsCallPath program path
    → IsBlockOf program (function_at program path) 0
entry_there program kept path calls = go path calls
  where
    some_block : (k : ℕ) (function : NumberedFunction) → slice_get program.funcs k ≡ Some function
        → IsBlockOf program k 0
    some_block k function found =
        let blocks : blocks_at program k ≡ function.blocks = ap (λ (o : Option NumberedFunction). option_map_or (λ function. function.blocks) o []) found in
        subst (λ (bs : List NumberedBlock). 0 < length bs) (sym blocks) (kept.functions k function found).some

    go : (path : List ℕ) → IsCallPath program path → IsBlockOf program (function_at program path) 0
    go [] calls = elim (slice_get_cases program.funcs program.root).1 as (λ _. IsBlockOf program program.root 0) [
      | inl some ↦ some_block program.root some.0 some.2
      | inr past ↦ absurd (let low = kept.root in let high = past.0 in omega arith)
    ]
    go (b ∷ path) calls = let on = call_on program kept path b calls.0 in subst (λ k. IsBlockOf program k 0) (sym on.enters) (some_block calls.0.func on.keeps.function on.keeps.at)

-- a step leads from a place to another, or to an end that some rule gives
pub step_safe : Promised → (program : NumberedProgram) → IsKept program
    → (path : List ℕ) (place : Option ℕ) (history : List RunEvent)
    → Stands program path place history → IsSafe program (node_step program path place history)
step_safe promised program kept path None history stands = on_to program path None history 0 stands (entry_there program kept path stands.calls)
step_safe promised program kept path (Some b) history stands = block_safe promised program kept path b history (slice_get (blocks_at program (function_at program path)) b) stands refl

-- a run starts at a place
pub start_stands : (program : NumberedProgram) → IsKept program → (rows : List InputRow) (words : List ℕ)
    → AreWords rows words → Stands program [] None (start_history program rows words)
start_stands program kept rows words fit =
    let globals : List RunEvent = with_inits program.inits [] in
    record {
      calls = tt;
      there = tt;
      runs = λ f. inputs_run rows words (entered program program.root [] globals) f
          ∙ entered_runs program program.root [] globals f
          ∙ ap (λ (others : Bool). if program.root == f then true else others) (globals_run program f);
      sound = inputs_sound rows words (entered program program.root [] globals) fit (entered_sound program kept program.root [] globals tt (globals_sound program kept));
    }
