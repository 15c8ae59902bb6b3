-- Each step goes along an edge.
use Rattle.std.proofs.Common.{◌≡◌, ℕ, List, [], ◌∷◌, map, Option, Some, None, Result, Ok, Err, refl, inl, inr, ⊎_elim, Contains}
use Rattle.std.specs.Prelude.{◌==◌, slice_get}
use Rattle.std.specs.Option.{option_map}
use Rattle.alf_ops.specs.declared.history.Value.{Value}
use Rattle.alf_ops.specs.declared.history.Value.TheVariants.{Int, Ptr}
use Rattle.alf_ops.specs.declared.history.RunFault.{RunFault}
use Rattle.alf_ops.specs.declared.history.RunEvent.{RunEvent}
use Rattle.alf_ops.specs.declared.history.RunEvent.TheVariants.{Leave}
use Rattle.alf_ops.specs.Histories.{store}
use Rattle.alf_ops.specs.Pointers.{operands}
use Rattle.alf_program.specs.Tree.{NumberedExpression}
use Rattle.alf_check.specs.CheckedPrograms.{BlockEnding, Fall, Jump, Switch, Call, Return, NumberedBlock, NumberedProgram, blocks_at}
use Rattle.flow_graph.specs.Nodes.{Node, IsTarget, BackLeads, ReturnLeads, EndLeads, PlaceLeads, Leads, ending_at, function_at, entry_node}
use Rattle.alf_runs.specs.Expressions.{value_of}
use Rattle.alf_runs.specs.Statements.{after_statements}
use Rattle.alf_runs.specs.Steps.{At, frames_of, target_of, switch_step, call_step, move_on, result_step, go_back, leave, return_step, ending_step, then_ending, block_step, node_step, step}
use Rattle.alf_runs.specs.LeadLaws.{LeadsTo}
use Rattle.lists.specs.MemberLaws.{first_member, further_member}
use Rattle.lists.specs.TestLaws.{by_test}

-- a switch goes to one of its targets, or to the default
is_target : (targets : List (ℕ × ℕ)) (others word : ℕ) → IsTarget targets others (target_of targets others word)
is_target [] others word = inl refl
is_target (target ∷ targets) others word = by_test (target.0 == word)
    (λ first. rw first (inr (first_member target.1 (map (λ (t : ℕ × ℕ). t.1) targets))))
    (λ further. rw further (⊎_elim
    (λ (default : target_of targets others word ≡ others). inl default)
    (λ (listed : Contains (map (λ (t : ℕ × ℕ). t.1) targets) (target_of targets others word)). inr (further_member target.1 (map (λ (t : ℕ × ℕ). t.1) targets) (target_of targets others word) listed))
    (is_target targets others word)))

switch_along : (program : NumberedProgram) (path : List ℕ) (b : ℕ) (value : NumberedExpression) (targets : List (ℕ × ℕ)) (others : ℕ) (history : List RunEvent) (r : Result Value RunFault)
    → LeadsTo (EndLeads program path b (Some (Switch value targets others))) (switch_step path targets others history r)
switch_along program path b value targets others history (Ok (Int size word)) = (target_of targets others word, is_target targets others word, refl)
switch_along program path b value targets others history (Ok (Ptr frame offset)) = tt
switch_along program path b value targets others history (Err fault) = tt

move_along : (path : List ℕ) (program : NumberedProgram) (f : ℕ) (args : List NumberedExpression) (result : Option (ℕ × ℕ)) (next : ℕ) (r : Result (List RunEvent) RunFault)
    → LeadsTo (BackLeads path (Some (Call f args result next))) (move_on path next r)
move_along path program f args result next (Ok history) = refl
move_along path program f args result next (Err fault) = tt

result_along : (program : NumberedProgram) (path : List ℕ) (f : ℕ) (args : List NumberedExpression) (wanted result : Option (ℕ × ℕ)) (next : ℕ) (value : Option Value) (history : List RunEvent)
    → LeadsTo (BackLeads path (Some (Call f args wanted next))) (result_step program path next result value history)
result_along program path f args wanted (Some to) next (Some value) history = move_along path program f args wanted next (store (frames_of program) history (Ptr to.0 to.1) value)
result_along program path f args wanted None next None history = refl
result_along program path f args wanted (Some to) next None history = tt
result_along program path f args wanted None next (Some value) history = tt

back_along : (program : NumberedProgram) (path : List ℕ) (ending : Option BlockEnding) (value : Option Value) (history : List RunEvent)
    → LeadsTo (BackLeads path ending) (go_back program path ending value history)
back_along program path None value history = tt
back_along program path (Some (Fall next)) value history = tt
back_along program path (Some (Jump to)) value history = tt
back_along program path (Some (Switch switched targets others)) value history = tt
back_along program path (Some (Call f args result next)) value history = result_along program path f args result result next value history
back_along program path (Some (Return returned)) value history = tt

leave_along : (program : NumberedProgram) (path : List ℕ) (value : Option Value) (history : List RunEvent)
    → LeadsTo (ReturnLeads program path) (leave program path value history)
leave_along program [] value history = refl
leave_along program (b ∷ path) value history =
    back_along program path (ending_at program (function_at program path) b) value (Leave (function_at program (b ∷ path)) ∷ history)

return_along : (program : NumberedProgram) (path : List ℕ) (history : List RunEvent) (r : Result Value RunFault)
    → LeadsTo (ReturnLeads program path) (return_step program path history r)
return_along program path history (Ok value) = leave_along program path (Some value) history
return_along program path history (Err fault) = tt

call_along : (program : NumberedProgram) (path : List ℕ) (b f : ℕ) (history : List RunEvent) (r : Result (List Value) RunFault)
    → LeadsTo (λ goal. goal ≡ Some (entry_node (b ∷ path))) (call_step program path b f history r)
call_along program path b f history (Ok values) = refl
call_along program path b f history (Err fault) = tt

end_along : (program : NumberedProgram) (path : List ℕ) (b : ℕ) (ending : BlockEnding) (history : List RunEvent)
    → LeadsTo (EndLeads program path b (Some ending)) (ending_step program path b ending history)
end_along program path b (Fall next) history = refl
end_along program path b (Jump to) history = refl
end_along program path b (Switch value targets others) history = switch_along program path b value targets others history (value_of (frames_of program) history value)
end_along program path b (Call f args result next) history = call_along program path b f history (operands (map (value_of (frames_of program) history) args))
end_along program path b (Return None) history = leave_along program path None history
end_along program path b (Return (Some value)) history = return_along program path history (value_of (frames_of program) history value)

then_along : (program : NumberedProgram) (path : List ℕ) (b : ℕ) (ending : BlockEnding) (r : Result (List RunEvent) RunFault)
    → LeadsTo (EndLeads program path b (Some ending)) (then_ending program path b ending r)
then_along program path b ending (Ok history) = end_along program path b ending history
then_along program path b ending (Err fault) = tt

block_along : (program : NumberedProgram) (path : List ℕ) (b : ℕ) (block : Option NumberedBlock) (history : List RunEvent)
    → LeadsTo (EndLeads program path b (option_map (λ (found : NumberedBlock). found.ending) block)) (block_step program path b block history)
block_along program path b None history = tt
block_along program path b (Some block) history = then_along program path b block.ending (after_statements (frames_of program) block.statements (Ok history))

place_along : (program : NumberedProgram) (path : List ℕ) (place : Option ℕ) (history : List RunEvent)
    → LeadsTo (PlaceLeads program path place) (node_step program path place history)
place_along program path None history = refl
place_along program path (Some b) history = block_along program path b (slice_get (blocks_at program (function_at program path)) b) history

-- a step leads along an edge
pub step_along : (program : NumberedProgram) (node : Node) (history : List RunEvent)
    → LeadsTo (Leads program node) (step program (At node history))
step_along program node history = place_along program node.path node.block history
