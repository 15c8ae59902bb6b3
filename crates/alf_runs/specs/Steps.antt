-- One step of a run: from a node and a history to the next, or to the outcome.
--   Moment                       where a run stands: at a node with a history, or at its end with an outcome
--   step program moment          where it stands after one step; at its end it stays
--   node_step program path block history     a step from an entry, which only moves on, or from a block
--   block_step program path b block history  the block's statements run in order, then comes its ending
--   ending_step program path b ending history   a block goes on, jumps, switches, calls or returns
--   leave program path value history         an instance is left: the root's return ends the run, any other goes back to its call
--   go_back                      the result is stored where the call wants it, and the run moves on to the block after the call
use Rattle.std.specs.Prelude.{ℕ, List, [], ◌∷◌, map, ◌==◌, if◌then◌else◌, Option, Some, None, Result, Ok, Err, slice_get}
use Rattle.alf_ops.specs.declared.history.Value.{Value}
use Rattle.alf_ops.specs.declared.history.Value.TheVariants.{Int, Ptr}
use Rattle.alf_ops.specs.declared.history.RunFault.{RunFault}
use Rattle.alf_ops.specs.declared.history.RunFault.TheVariants.{Kind}
use Rattle.alf_ops.specs.declared.history.FrameShape.{FrameShape}
use Rattle.alf_ops.specs.declared.history.RunEvent.{RunEvent}
use Rattle.alf_ops.specs.declared.history.RunEvent.TheVariants.{Leave}
use Rattle.alf_ops.specs.Histories.{store}
use Rattle.alf_ops.specs.Pointers.{operands}
use Rattle.alf_check.specs.CheckedPrograms.{BlockEnding, Fall, Jump, Switch, Call, Return, NumberedBlock, NumberedProgram, blocks_at}
use Rattle.alf_check.specs.Shapes.{shapes_of}
use Rattle.flow_graph.specs.Nodes.{Node, entry_node, block_node, ending_at, function_at}
use Rattle.alf_runs.specs.Expressions.{value_of}
use Rattle.alf_runs.specs.Statements.{after_statements}
use Rattle.alf_runs.specs.Entering.{entered}
use Rattle.alf_runs.specs.Outcomes.{Outcome, Ended, Faulted, Lost, outputs}

-- where a run stands: at a node with a history, or at its end with an outcome
pub data Moment : Type 0 where
  At : Node → List RunEvent → Moment
  Over : Outcome → Moment

-- the frames of a program as runs take them
abbrev pub frames_of : NumberedProgram → List FrameShape
frames_of program = shapes_of program.frames

-- ---- going on within an instance

-- the block of the first target of this word, else that of every other word
abbrev pub target_of : List (ℕ × ℕ) → ℕ → ℕ → ℕ
target_of [] others word = others
target_of (target ∷ targets) others word = if target.0 == word then target.1 else target_of targets others word

-- a switch takes the first target that equals the word, else the default; a pointer is the fault kind
abbrev pub switch_step : List ℕ → List (ℕ × ℕ) → ℕ → List RunEvent → Result Value RunFault → Moment
switch_step path targets others history (Ok (Int size word)) = At (block_node path (target_of targets others word)) history
switch_step path targets others history (Ok (Ptr frame offset)) = Over (Faulted Kind)
switch_step path targets others history (Err fault) = Over (Faulted fault)

-- ---- calls and returns

-- a call enters the function with the values of its arguments, and moves to the entry
abbrev pub call_step : NumberedProgram → List ℕ → ℕ → ℕ → List RunEvent → Result (List Value) RunFault → Moment
call_step program path b f history (Ok values) = At (entry_node (b ∷ path)) (entered program f values history)
call_step program path b f history (Err fault) = Over (Faulted fault)

-- the run moves on to the block after the call
abbrev pub move_on : List ℕ → ℕ → Result (List RunEvent) RunFault → Moment
move_on path next (Ok history) = At (block_node path next) history
move_on path next (Err fault) = Over (Faulted fault)

-- the result is stored where the call wants it, with no result wanted and none given there is nothing to store
abbrev pub result_step : NumberedProgram → List ℕ → ℕ → Option (ℕ × ℕ) → Option Value → List RunEvent → Moment
result_step program path next (Some to) (Some value) history = move_on path next (store (frames_of program) history (Ptr to.0 to.1) value)
result_step program path next None None history = move_on path next (Ok history)
result_step program path next (Some to) None history = Over Lost
result_step program path next None (Some value) history = Over Lost

-- back to the call that stands in the caller's block
abbrev pub go_back : NumberedProgram → List ℕ → Option BlockEnding → Option Value → List RunEvent → Moment
go_back program path None value history = Over Lost
go_back program path (Some (Fall next)) value history = Over Lost
go_back program path (Some (Jump to)) value history = Over Lost
go_back program path (Some (Switch switched targets others)) value history = Over Lost
go_back program path (Some (Call f args result next)) value history = result_step program path next result value history
go_back program path (Some (Return returned)) value history = Over Lost

-- an instance is left: the root's return ends the run, any other goes back to its call
abbrev pub leave : NumberedProgram → List ℕ → Option Value → List RunEvent → Moment
leave program [] value history = Over (Ended (outputs program value (Leave program.root ∷ history)))
leave program (b ∷ path) value history =
    go_back program path (ending_at program (function_at program path) b) value (Leave (function_at program (b ∷ path)) ∷ history)

-- a return leaves the instance with the value of its expression
abbrev pub return_step : NumberedProgram → List ℕ → List RunEvent → Result Value RunFault → Moment
return_step program path history (Ok value) = leave program path (Some value) history
return_step program path history (Err fault) = Over (Faulted fault)

-- ---- a step

-- a block goes on to the next, jumps, switches, calls or returns
abbrev pub ending_step : NumberedProgram → List ℕ → ℕ → BlockEnding → List RunEvent → Moment
ending_step program path b (Fall next) history = At (block_node path next) history
ending_step program path b (Jump to) history = At (block_node path to) history
ending_step program path b (Switch value targets others) history = switch_step path targets others history (value_of (frames_of program) history value)
ending_step program path b (Call f args result next) history = call_step program path b f history (operands (map (value_of (frames_of program) history) args))
ending_step program path b (Return None) history = leave program path None history
ending_step program path b (Return (Some value)) history = return_step program path history (value_of (frames_of program) history value)

-- the ending comes after the statements; the first fault ends the run
abbrev pub then_ending : NumberedProgram → List ℕ → ℕ → BlockEnding → Result (List RunEvent) RunFault → Moment
then_ending program path b ending (Ok history) = ending_step program path b ending history
then_ending program path b ending (Err fault) = Over (Faulted fault)

-- the block's statements run in order, then comes its ending
abbrev pub block_step : NumberedProgram → List ℕ → ℕ → Option NumberedBlock → List RunEvent → Moment
block_step program path b None history = Over Lost
block_step program path b (Some block) history = then_ending program path b block.ending (after_statements (frames_of program) block.statements (Ok history))

-- an entry only moves on to block 0
abbrev pub node_step : NumberedProgram → List ℕ → Option ℕ → List RunEvent → Moment
node_step program path None history = At (block_node path 0) history
node_step program path (Some b) history = block_step program path b (slice_get (blocks_at program (function_at program path)) b) history

-- where a run stands after one step; at its end it stays
abbrev pub step : NumberedProgram → Moment → Moment
step program (At node history) = node_step program node.path node.block history
step program (Over outcome) = Over outcome
