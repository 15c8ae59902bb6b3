-- Laws of runs inside.
--   steps_inside             a step from inside leads inside
--   starts_inside            and so does each start
use Rattle.std.specs.Prelude.{slice_get}
use Rattle.std.specs.Option.{option_map}
use Rattle.std.proofs.Common.{◌≡◌, ℕ, List, [], ◌∷◌, map, length, Option, Some, None, Result, Ok, Err, ◌<◌, refl, sym, ap, subst}
use Rattle.alf_ops.specs.declared.history.Value.{Value}
use Rattle.alf_ops.specs.declared.history.Value.TheVariants.{Int, Ptr}
use Rattle.alf_ops.specs.declared.history.RunFault.{RunFault}
use Rattle.alf_ops.specs.declared.history.FrameShape.{FrameShape}
use Rattle.alf_ops.specs.declared.history.RunEvent.{RunEvent}
use Rattle.alf_ops.specs.declared.history.RunEvent.TheVariants.{Enter, Leave}
use Rattle.alf_ops.specs.Histories.{store, IsSoundHistory}
use Rattle.alf_ops.specs.Pointers.{operands}
use Rattle.alf_program.specs.Tree.{NumberedExpression}
use Rattle.alf_check.specs.declared.rows.InitRow.{InitRow}
use Rattle.alf_check.specs.declared.rows.InputRow.{InputRow}
use Rattle.alf_check.specs.CheckedPrograms.{NumberedProgram, NumberedBlock, NumberedStatement, Null, Store, BlockEnding, Fall, Jump, Switch, Call, Return, blocks_at}
use Rattle.alf_check.specs.Kept.{IsKept, KeepsEnding, CallKeeps}
use Rattle.alf_check.specs.Inputs.{KeepInputs}
use Rattle.flow_graph.specs.Nodes.{Node, ending_at, function_at}
use Rattle.flow_graph.specs.Paths.{IsPlaced}
use Rattle.flow_graph.specs.PathLaws.{ending_keeps}
use Rattle.alf_runs.specs.Expressions.{value_of}
use Rattle.alf_runs.specs.Statements.{after_store, after_statement, after_statements}
use Rattle.alf_runs.specs.Entering.{with_arguments, with_inits, args_at, inits_at, entered}
use Rattle.alf_runs.specs.Starts.{start_history, words_of, IsStart}
use Rattle.alf_runs.specs.Steps.{Moment, At, Over, frames_of, switch_step, call_step, move_on, result_step, go_back, leave, return_step, ending_step, then_ending, block_step, node_step, step}
use Rattle.transfer_rules.specs.Inside.{IsInside}
use Rattle.transfer_rules.specs.InsideLaws.{store_inside, by_stores_inside}
use Rattle.transfer_rules.specs.RunsInside.{InsideAt, SoundAt, StorePromises}

-- ---- statements

abbrev InsideOk : List FrameShape → Result (List RunEvent) RunFault → Type 0
InsideOk rows (Ok history) = IsInside rows history
InsideOk rows (Err fault) = Unit {0}

stored_ok : (rows : List FrameShape) (history : List RunEvent) (place value : Value) → IsInside rows history
    → InsideOk rows (store rows history place value)
stored_ok rows history place value inside = go (store rows history place value) refl
  where
    go : (r : Result (List RunEvent) RunFault) → store rows history place value ≡ r → InsideOk rows r
    go (Ok new) is = store_inside rows history new place value inside is
    go (Err fault) is = tt

after_ok : (rows : List FrameShape) (history : List RunEvent) (place value : Result Value RunFault)
    → IsInside rows history → InsideOk rows (after_store rows history place value)
after_ok rows history (Err fault) value inside = tt
after_ok rows history (Ok place) (Err fault) inside = tt
after_ok rows history (Ok place) (Ok value) inside = stored_ok rows history place value inside

statement_ok : (rows : List FrameShape) (s : NumberedStatement) (history : List RunEvent) → IsInside rows history
    → InsideOk rows (after_statement rows s history)
statement_ok rows Null history inside = inside
statement_ok rows (Store to value) history inside = after_ok rows history (value_of rows history to) (value_of rows history value) inside

statements_ok : (rows : List FrameShape) (ss : List NumberedStatement) (r : Result (List RunEvent) RunFault)
    → InsideOk rows r → InsideOk rows (after_statements rows ss r)
statements_ok rows [] (Err fault) inside = tt
statements_ok rows (s ∷ ss) (Err fault) inside = tt
statements_ok rows [] (Ok history) inside = inside
statements_ok rows (s ∷ ss) (Ok history) inside = statements_ok rows ss (after_statement rows s history) (statement_ok rows s history inside)

-- ---- the history before stores

before_inits : (inits : List InitRow) (history : List RunEvent) → IsSoundHistory (with_inits inits history) → IsSoundHistory history
before_inits [] history sound = sound
before_inits (init ∷ inits) history sound = (before_inits inits _ sound).1

before_arguments : (frames : List ℕ) (values : List Value) (history : List RunEvent)
    → IsSoundHistory (with_arguments frames values history) → IsSoundHistory history
before_arguments [] values history sound = sound
before_arguments (frame ∷ frames) [] history sound = sound
before_arguments (frame ∷ frames) (value ∷ values) history sound = (before_arguments frames values _ sound).1

module _ (promises : StorePromises) (program : NumberedProgram) (keeps : IsKept program) where
  -- ---- endings

  move_inside : (path : List ℕ) (next : ℕ) (r : Result (List RunEvent) RunFault) → InsideOk (frames_of program) r
      → InsideAt (frames_of program) (move_on path next r)
  move_inside path next (Ok history) inside = inside
  move_inside path next (Err fault) inside = tt

  result_inside : (path : List ℕ) (next : ℕ) (to : Option (ℕ × ℕ)) (value : Option Value) (history : List RunEvent)
      → IsInside (frames_of program) history
      → InsideAt (frames_of program) (result_step program path next to value history)
  result_inside path next (Some to) (Some value) history inside =
      move_inside path next (store (frames_of program) history (Ptr to.0 to.1) value) (stored_ok (frames_of program) history (Ptr to.0 to.1) value inside)
  result_inside path next None None history inside = inside
  result_inside path next (Some to) None history inside = tt
  result_inside path next None (Some value) history inside = tt

  back_inside : (path : List ℕ) (ending : Option BlockEnding) (value : Option Value) (history : List RunEvent)
      → IsInside (frames_of program) history
      → InsideAt (frames_of program) (go_back program path ending value history)
  back_inside path None value history inside = tt
  back_inside path (Some (Fall next)) value history inside = tt
  back_inside path (Some (Jump to)) value history inside = tt
  back_inside path (Some (Switch switched targets others)) value history inside = tt
  back_inside path (Some (Call f args result next)) value history inside = result_inside path next result value history inside
  back_inside path (Some (Return returned)) value history inside = tt

  leave_inside : (path : List ℕ) (value : Option Value) (history : List RunEvent) → IsInside (frames_of program) history
      → InsideAt (frames_of program) (leave program path value history)
  leave_inside [] value history inside = tt
  leave_inside (b ∷ path) value history inside =
      back_inside path (ending_at program (function_at program path) b) value (Leave (function_at program (b ∷ path)) ∷ history) inside

  switch_inside : (path : List ℕ) (targets : List (ℕ × ℕ)) (others : ℕ) (history : List RunEvent) (r : Result Value RunFault) → IsInside (frames_of program) history
      → InsideAt (frames_of program) (switch_step path targets others history r)
  switch_inside path targets others history (Ok (Int size word)) inside = inside
  switch_inside path targets others history (Ok (Ptr frame offset)) inside = tt
  switch_inside path targets others history (Err fault) inside = tt

  return_inside : (path : List ℕ) (history : List RunEvent) (r : Result Value RunFault)
      → IsInside (frames_of program) history → InsideAt (frames_of program) (return_step program path history r)
  return_inside path history (Ok value) inside = leave_inside path (Some value) history inside
  return_inside path history (Err fault) inside = tt

  -- the history that a function is entered from
  before_call : (f : ℕ) (values : List Value) (history : List RunEvent) → IsSoundHistory (entered program f values history)
      → IsSoundHistory history
  before_call f values history sound = before_arguments (args_at program f) values (Enter f ∷ history) (before_inits (inits_at program f) _ sound)

  call_inside : (path : List ℕ) (b f : ℕ) (args : List NumberedExpression) (result : Option (ℕ × ℕ)) (next : ℕ) (history : List RunEvent)
      → CallKeeps program (function_at program path) b f args result next → IsInside (frames_of program) history
      → (r : Result (List Value) RunFault) → operands (map (value_of (frames_of program) history) args) ≡ r
      → SoundAt (call_step program path b f history r) → InsideAt (frames_of program) (call_step program path b f history r)
  call_inside path b f args result next history keep inside (Err fault) is sound = tt
  call_inside path b f args result next history keep inside (Ok values) is sound =
      let fit = promises.arguments program.frames (function_at program path) (frames_of program) history keep.function.args args values (before_call f values history sound) keep.args_keep is in
      by_stores_inside (frames_of program) (Enter f ∷ history) (entered program f values history) (promises.calls program f keep.function values history keeps keep.at fit) inside

  ending_inside : (path : List ℕ) (b : ℕ) (ending : BlockEnding) (history : List RunEvent)
      → KeepsEnding program (function_at program path) b ending → IsInside (frames_of program) history
      → SoundAt (ending_step program path b ending history) → InsideAt (frames_of program) (ending_step program path b ending history)
  ending_inside path b (Fall next) history keep inside sound = inside
  ending_inside path b (Jump to) history keep inside sound = inside
  ending_inside path b (Switch value targets others) history keep inside sound =
      switch_inside path targets others history (value_of (frames_of program) history value) inside
  ending_inside path b (Call f args result next) history keep inside sound =
      call_inside path b f args result next history keep inside (operands (map (value_of (frames_of program) history) args)) refl sound
  ending_inside path b (Return None) history keep inside sound = leave_inside path None history inside
  ending_inside path b (Return (Some value)) history keep inside sound = return_inside path history (value_of (frames_of program) history value) inside

  -- ---- steps

  then_inside : (path : List ℕ) (b : ℕ) (ending : BlockEnding) → KeepsEnding program (function_at program path) b ending
      → (r : Result (List RunEvent) RunFault) → InsideOk (frames_of program) r
      → SoundAt (then_ending program path b ending r) → InsideAt (frames_of program) (then_ending program path b ending r)
  then_inside path b ending keep (Ok history) inside sound = ending_inside path b ending history keep inside sound
  then_inside path b ending keep (Err fault) inside sound = tt

  block_inside : (path : List ℕ) (b : ℕ) (o : Option NumberedBlock) (history : List RunEvent)
      → function_at program path < length program.funcs
      → slice_get (blocks_at program (function_at program path)) b ≡ o → IsInside (frames_of program) history
      → SoundAt (block_step program path b o history) → InsideAt (frames_of program) (block_step program path b o history)
  block_inside path b None history low at inside sound = tt
  block_inside path b (Some block) history low at inside sound =
      let found : ending_at program (function_at program path) b ≡ Some block.ending = ap (option_map (λ (x : NumberedBlock). x.ending)) at in
      then_inside path b block.ending (ending_keeps program keeps (function_at program path) b block.ending low found)
      (after_statements (frames_of program) block.statements (Ok history)) (statements_ok (frames_of program) block.statements (Ok history) inside) sound

  node_inside : (path : List ℕ) (block : Option ℕ) (history : List RunEvent)
      → function_at program path < length program.funcs → IsInside (frames_of program) history
      → SoundAt (node_step program path block history) → InsideAt (frames_of program) (node_step program path block history)
  node_inside path None history low inside sound = inside
  node_inside path (Some b) history low inside sound = block_inside path b (slice_get (blocks_at program (function_at program path)) b) history low refl inside sound

  -- a step from inside leads inside
  pub steps_inside : (node next : Node) (history later : List RunEvent) → IsPlaced program node
      → IsInside (frames_of program) history → IsSoundHistory later
      → step program (At node history) ≡ At next later → IsInside (frames_of program) later
  steps_inside node next history later placed inside sound steps =
      subst (InsideAt (frames_of program)) steps (node_inside node.path node.block history placed.function inside (subst SoundAt (sym steps) sound))

  -- and so does each start
  pub starts_inside : (rows : List InputRow) (node : Node) (history : List RunEvent) → KeepInputs program rows
      → IsStart program rows (At node history) → IsInside (frames_of program) history
  starts_inside rows node history inputs start =
      let words = words_of rows start.numbers in
      let comes = promises.starts program rows words keeps inputs (promises.inputs rows start.numbers start.within) in
      let globals = by_stores_inside (frames_of program) [] (with_inits program.inits []) comes.globals tt in
      let all = by_stores_inside (frames_of program) (Enter program.root ∷ with_inits program.inits []) (start_history program rows words) comes.rest globals in
      subst (InsideAt (frames_of program)) (sym start.starts) all
