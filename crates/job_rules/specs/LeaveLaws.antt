-- Where runs end.
--   returns_there   a run ends at a return of the root alone
--   each_leaves     each run that ends leaves a memory
--   leaves_and_ends and a run that leaves one ends
use Rattle.std.specs.Prelude.{slice_get}
use Rattle.std.proofs.Common.{◌≡◌, ◌+◌, ℕ, zero, suc, List, [], ◌∷◌, map, Option, Some, None, Result, Ok, Err, refl, sym, ap, subst, ◌∙◌, arith}
use Rattle.alf_ops.specs.declared.history.Value.{Value}
use Rattle.alf_ops.specs.declared.history.Value.TheVariants.{Int, Ptr}
use Rattle.alf_ops.specs.declared.history.RunFault.{RunFault}
use Rattle.alf_ops.specs.declared.history.RunEvent.{RunEvent}
use Rattle.alf_ops.specs.declared.history.RunEvent.TheVariants.{Leave}
use Rattle.alf_ops.specs.Histories.{store}
use Rattle.alf_ops.specs.Pointers.{operands}
use Rattle.alf_check.specs.CheckedPrograms.{BlockEnding, Fall, Jump, Switch, Call, Return, NumberedBlock, NumberedProgram, blocks_at}
use Rattle.flow_graph.specs.Nodes.{Node, first_node, block_node, ending_at, function_at}
use Rattle.alf_runs.specs.Expressions.{value_of}
use Rattle.alf_runs.specs.Statements.{after_statements}
use Rattle.alf_runs.specs.Outcomes.{Outcome, Outputs, Ended, Faulted}
use Rattle.alf_runs.specs.Steps.{Moment, At, Over, frames_of, target_of, switch_step, call_step, move_on, result_step, go_back, leave, return_step, ending_step, then_ending, block_step, node_step, step}
use Rattle.alf_runs.specs.Runs.{after, trace}
use Rattle.alf_runs.specs.Starts.{words_of, start_history}
use Rattle.job_rules.specs.JobLaws.{IsLastReturn, LeavesAndEnds, RunsThatEndLeave}

-- a run that goes on is not over
at_over : (node : Node) (history : List RunEvent) (outcome : Outcome) → At node history ≡ Over outcome → ⊥
at_over node history outcome e = cc

fault_ends : (fault : RunFault) (outputs : Outputs) → Over (Faulted fault) ≡ Over (Ended outputs) → ⊥
fault_ends fault outputs e = cc

same_outcome : (first second : Outcome) → Over first ≡ Over second → first ≡ second
same_outcome first second e = cc

-- ---- endings

-- no step back to a call ends a run
moves_on : (path : List ℕ) (next : ℕ) (r : Result (List RunEvent) RunFault) (outputs : Outputs)
    → move_on path next r ≡ Over (Ended outputs) → ⊥
moves_on path next (Ok history) outputs e = at_over (block_node path next) history (Ended outputs) e
moves_on path next (Err fault) outputs e = fault_ends fault outputs e

stores_on : (program : NumberedProgram) (path : List ℕ) (next : ℕ) (to : Option (ℕ × ℕ)) (value : Option Value)
    (history : List RunEvent) (outputs : Outputs) → result_step program path next to value history ≡ Over (Ended outputs) → ⊥
stores_on program path next (Some to) (Some value) history outputs e = moves_on path next (store (frames_of program) history (Ptr to.0 to.1) value) outputs e
stores_on program path next None None history outputs e = at_over (block_node path next) history (Ended outputs) e
stores_on program path next (Some to) None history outputs e = cc
stores_on program path next None (Some value) history outputs e = cc

goes_back : (program : NumberedProgram) (path : List ℕ) (ending : Option BlockEnding) (value : Option Value)
    (history : List RunEvent) (outputs : Outputs) → go_back program path ending value history ≡ Over (Ended outputs) → ⊥
goes_back program path None value history outputs e = cc
goes_back program path (Some (Fall next)) value history outputs e = cc
goes_back program path (Some (Jump to)) value history outputs e = cc
goes_back program path (Some (Switch switched targets others)) value history outputs e = cc
goes_back program path (Some (Call f args result next)) value history outputs e = stores_on program path next result value history outputs e
goes_back program path (Some (Return returned)) value history outputs e = cc

-- only the root is left for good
left_root : (program : NumberedProgram) (path : List ℕ) (value : Option Value) (history : List RunEvent)
    (outputs : Outputs) → leave program path value history ≡ Over (Ended outputs) → path ≡ []
left_root program [] value history outputs e = refl
left_root program (b ∷ path) value history outputs e =
    absurd (goes_back program path (ending_at program (function_at program path) b) value (Leave (function_at program (b ∷ path)) ∷ history) outputs e)

switches_on : (path : List ℕ) (targets : List (ℕ × ℕ)) (others : ℕ) (history : List RunEvent)
    (r : Result Value RunFault) (outputs : Outputs) → switch_step path targets others history r ≡ Over (Ended outputs) → ⊥
switches_on path targets others history (Ok (Int size bits)) outputs e = at_over (block_node path (target_of targets others bits)) history (Ended outputs) e
switches_on path targets others history (Ok (Ptr frame offset)) outputs e = cc
switches_on path targets others history (Err fault) outputs e = fault_ends fault outputs e

calls_on : (program : NumberedProgram) (path : List ℕ) (b f : ℕ) (history : List RunEvent)
    (r : Result (List Value) RunFault) (outputs : Outputs) → call_step program path b f history r ≡ Over (Ended outputs) → ⊥
calls_on program path b f history (Ok values) outputs e = cc
calls_on program path b f history (Err fault) outputs e = fault_ends fault outputs e

returned_root : (program : NumberedProgram) (path : List ℕ) (history : List RunEvent) (r : Result Value RunFault)
    (outputs : Outputs) → return_step program path history r ≡ Over (Ended outputs) → path ≡ []
returned_root program path history (Ok value) outputs e = left_root program path (Some value) history outputs e
returned_root program path history (Err fault) outputs e = absurd (fault_ends fault outputs e)

-- a run ends at a return of the root alone
pub returns_there : (program : NumberedProgram) (path : List ℕ) (b : ℕ) (ending : BlockEnding) (history : List RunEvent)
    (outputs : Outputs) → ending_step program path b ending history ≡ Over (Ended outputs) → IsLastReturn path ending
returns_there program path b (Fall next) history outputs e = absurd (at_over (block_node path next) history (Ended outputs) e)
returns_there program path b (Jump to) history outputs e = absurd (at_over (block_node path to) history (Ended outputs) e)
returns_there program path b (Switch value targets others) history outputs e =
    absurd (switches_on path targets others history (value_of (frames_of program) history value) outputs e)
returns_there program path b (Call f args result next) history outputs e =
    absurd (calls_on program path b f history (operands (map (value_of (frames_of program) history) args)) outputs e)
returns_there program path b (Return None) history outputs e =
    record { of_root = left_root program path None history outputs e; value = None; returns = refl }
returns_there program path b (Return (Some value)) history outputs e =
    record { of_root = returned_root program path history (value_of (frames_of program) history value) outputs e; value = Some value; returns = refl }

-- ---- the last step

-- a run that is over stays so, and has no more nodes
over_stays : (program : NumberedProgram) (t : ℕ) (outcome : Outcome) → after program t (Over outcome) ≡ Over outcome
over_stays program zero outcome = refl
over_stays program (suc t) outcome = over_stays program t outcome

no_nodes : (program : NumberedProgram) (t : ℕ) (outcome : Outcome) → trace program t (Over outcome) ≡ []
no_nodes program zero outcome = refl
no_nodes program (suc t) outcome = refl

-- where a run that is over after t steps stood last
record StoodLast (program : NumberedProgram) (from : Moment) (t : ℕ) (outcome : Outcome) : Type 0 where
  steps : ℕ
  node : Node
  before : List RunEvent
  stands : after program steps from ≡ At node before
  over : step program (At node before) ≡ Over outcome
  passes : trace program (suc steps) from ≡ trace program t from

stood_last : (program : NumberedProgram) (t : ℕ) (node : Node) (history : List RunEvent) (outcome : Outcome)
    → after program t (At node history) ≡ Over outcome → StoodLast program (At node history) t outcome
stood_last program zero node history outcome e = absurd (at_over node history outcome e)
stood_last program (suc t) node history outcome e = go (λ next later over. stood_last program t next later outcome over) (step program (At node history)) refl e
  where
    further : (next : Node) (later : List RunEvent) → step program (At node history) ≡ At next later
        → StoodLast program (At next later) t outcome → StoodLast program (At node history) (suc t) outcome
    further next later steps rest = record {
      steps = suc rest.steps;
      node = rest.node;
      before = rest.before;
      stands = ap (after program rest.steps) steps ∙ rest.stands;
      over = rest.over;
      passes = ap (λ (nodes : List Node). node ∷ nodes)
          (ap (trace program (suc rest.steps)) steps ∙ rest.passes ∙ ap (trace program t) (sym steps));
    }

    go : ((next : Node) (later : List RunEvent) → after program t (At next later) ≡ Over outcome → StoodLast program (At next later) t outcome)
        → (moment : Moment) → step program (At node history) ≡ moment → after program t (step program (At node history)) ≡ Over outcome
        → StoodLast program (At node history) (suc t) outcome
    go rest (At next later) steps over =
        further next later steps (rest next later (ap (after program t) (sym steps) ∙ over))
    go rest (Over other) steps over = record {
      steps = 0;
      node = node;
      before = history;
      stands = refl;
      over = steps ∙ (sym (over_stays program t other) ∙ ap (after program t) (sym steps) ∙ over);
      passes = ap (λ (nodes : List Node). node ∷ nodes) (sym (no_nodes program t other) ∙ ap (trace program t) (sym steps));
    }

-- the block at which it stood, and the history after its statements
record LeftBy (program : NumberedProgram) (node : Node) (before : List RunEvent) : Type 0 where
  b : ℕ
  node_is : node ≡ block_node [] b
  block : NumberedBlock
  at : slice_get (blocks_at program program.root) b ≡ Some block
  history : List RunEvent
  does : after_statements (frames_of program) block.statements (Ok before) ≡ Ok history

left_by : (program : NumberedProgram) (node : Node) (before : List RunEvent) (outputs : Outputs)
    → step program (At node before) ≡ Over (Ended outputs) → LeftBy program node before
left_by program node before outputs e = of_block node.block refl e
  where
    of_statements : (b : ℕ) (block : NumberedBlock) (r : Result (List RunEvent) RunFault) → node.block ≡ Some b
        → slice_get (blocks_at program (function_at program node.path)) b ≡ Some block
        → after_statements (frames_of program) block.statements (Ok before) ≡ r
        → then_ending program node.path b block.ending r ≡ Over (Ended outputs) → LeftBy program node before
    of_statements b block (Err fault) own at does over = absurd (fault_ends fault outputs over)
    of_statements b block (Ok history) own at does over =
        let last = returns_there program node.path b block.ending history outputs over in
        record {
          b = b;
          node_is = ap (λ (path : List ℕ). record { path = path; block = node.block }) last.of_root ∙ ap (λ (o : Option ℕ). record { path = []; block = o }) own;
          block = block;
          at = subst (λ (path : List ℕ). slice_get (blocks_at program (function_at program path)) b ≡ Some block) last.of_root at;
          history = history;
          does = does;
        }

    of_row : (b : ℕ) (row : Option NumberedBlock) → node.block ≡ Some b
        → slice_get (blocks_at program (function_at program node.path)) b ≡ row
        → block_step program node.path b row before ≡ Over (Ended outputs) → LeftBy program node before
    of_row b None own at over = cc
    of_row b (Some block) own at over =
        of_statements b block (after_statements (frames_of program) block.statements (Ok before)) own at refl over

    of_block : (block : Option ℕ) → node.block ≡ block → node_step program node.path block before ≡ Over (Ended outputs)
        → LeftBy program node before
    of_block None own over = absurd (at_over (block_node node.path 0) before (Ended outputs) over)
    of_block (Some b) own over = of_row b (slice_get (blocks_at program (function_at program node.path)) b) own refl over

-- one step more
after_step : (program : NumberedProgram) (t : ℕ) (moment : Moment)
    → after program (suc t) moment ≡ step program (after program t moment)
after_step program zero moment = refl
after_step program (suc t) moment = after_step program t (step program moment)

one_more : (n : ℕ) → n + 1 ≡ suc n
one_more n = omega arith

-- each run that ends leaves a memory
pub each_leaves : RunsThatEndLeave
each_leaves program rows from nodes outputs start ends =
    let moved = ap (after program ends.steps) (sym start.starts) ∙ ends.over in
    let last = stood_last program ends.steps first_node (start_history program rows (words_of rows start.numbers)) (Ended outputs) moved in
    let by = left_by program last.node last.before outputs last.over in (
      by.history,
      record {
        steps = last.steps;
        b = by.b;
        block = by.block;
        before = last.before;
        stands = ap (after program last.steps) start.starts ∙ last.stands ∙ ap (λ (n : Node). At n last.before) by.node_is;
        at = by.at;
        does = by.does;
        over = ap (λ (n : Node). step program (At n last.before)) (sym by.node_is) ∙ last.over;
        passes = ap (λ (k : ℕ). trace program k from) (one_more last.steps) ∙ ap (trace program (suc last.steps)) start.starts
            ∙ last.passes ∙ ap (trace program ends.steps) (sym start.starts) ∙ ends.passes;
      },
    )

-- and a run that leaves one ends
pub leaves_and_ends : LeavesAndEnds
leaves_and_ends program from nodes outputs history leaves = record {
  steps = leaves.steps + 1;
  over = ap (λ (k : ℕ). after program k from) (one_more leaves.steps) ∙ after_step program leaves.steps from ∙ ap (step program) leaves.stands ∙ leaves.over;
  passes = leaves.passes;
}
