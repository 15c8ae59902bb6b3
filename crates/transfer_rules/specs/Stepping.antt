-- One step of the abstract machine: from a node and a memory to the goals with their memories.
--   without_all v targets         the words that are of no target
--   switched rows m path ..       the arms of a switch: targets in order, then the default
--   leave_to program path v m     an instance is left
--   ending_at_end, step_at program path block m   what a block ends with, and a whole step
--   goals_left r                  the goals, if some are left
use Rattle.std.specs.Prelude.{ℕ, List, [], ◌∷◌, ◌++◌, Option, Some, None, slice_get}
use Rattle.alf_ops.specs.declared.history.RunFault.TheVariants.{Kind}
use Rattle.alf_ops.specs.declared.history.FrameShape.{FrameShape}
use Rattle.alf_program.specs.Tree.{NumberedExpression}
use Rattle.alf_check.specs.CheckedPrograms.{BlockEnding, Fall, Jump, Switch, Call, Return, NumberedBlock, NumberedProgram, blocks_at}
use Rattle.flow_graph.specs.Nodes.{Goal, entry_node, block_node, ending_at, function_at}
use Rattle.alf_runs.specs.Steps.{frames_of}
use Rattle.domain_core.specs.declared.fault_set.FaultSet.{FaultSet}
use Rattle.domain_core.specs.FaultSets.{no_faults, with_fault}
use Rattle.strided_rules.specs.Strides.{Stride}
use Rattle.strided_rules.specs.Members.{only, without}
use Rattle.pointer_rules.specs.AbstractValues.{AbstractValue}
use Rattle.memory_rules.specs.Memories.{Mem, left}
use Rattle.memory_rules.specs.AbstractSets.{abstract_sets}
use Rattle.transfer_rules.specs.Remains.{Remains, all_left, nothing_left, goes_on}
use Rattle.transfer_rules.specs.Evaluating.{pointer_value, value_at, arguments_at}
use Rattle.transfer_rules.specs.Doing.{stored_through, after_statements}
use Rattle.transfer_rules.specs.Filling.{entered_with}
use Rattle.transfer_rules.specs.Refining.{refined}

-- goals with their memories
abbrev pub Goals : Type 0
Goals = List (Goal × Mem abstract_sets)

-- one goal
abbrev pub to_goal : Goal → Mem abstract_sets → Remains Goals
to_goal goal m = all_left ((goal, m) ∷ [])

-- ---- switches

-- the words that are of no target
abbrev pub without_all : Option Stride → List (ℕ × ℕ) → Option Stride
without_all None targets = None
without_all (Some words) [] = Some words
without_all (Some words) (target ∷ targets) = without_all (without words target.0) targets

abbrev pub arm_to : List ℕ → ℕ → Option (Mem abstract_sets) → Goals
arm_to path to None = []
arm_to path to (Some m) = (Some (block_node path to), m) ∷ []

-- an arm with these words, if there are some
abbrev pub arm : List FrameShape → Mem abstract_sets → NumberedExpression → List ℕ → ℕ → Option Stride → Goals
arm rows m e path to None = []
arm rows m e path to (Some words) = arm_to path to (refined rows m e words)

abbrev pub target_arms : List FrameShape → Mem abstract_sets → NumberedExpression → List ℕ → Stride → List (ℕ × ℕ)
    → Goals
target_arms rows m e path words [] = []
target_arms rows m e path words (target ∷ targets) = arm rows m e path target.1 (only words target.0) ++ target_arms rows m e path words targets

-- the arms of a switch on these words: targets in order, then the default
abbrev pub arms : List FrameShape → Mem abstract_sets → NumberedExpression → List ℕ → List (ℕ × ℕ) → ℕ → Stride → Goals
arms rows m e path targets others words = target_arms rows m e path words targets ++ arm rows m e path others (without_all (Some words) targets)

abbrev pub arms_of : List FrameShape → Mem abstract_sets → NumberedExpression → List ℕ → List (ℕ × ℕ) → ℕ
    → Option Stride → Option Goals
arms_of rows m e path targets others None = None
arms_of rows m e path targets others (Some words) = Some (arms rows m e path targets others words)

-- no switch takes a pointer
abbrev pub pointer_fault : List (ℕ × Stride) → FaultSet
pointer_fault [] = no_faults
pointer_fault (place ∷ places) = with_fault no_faults Kind

abbrev pub switched : List FrameShape → Mem abstract_sets → NumberedExpression → List ℕ → List (ℕ × ℕ) → ℕ
    → AbstractValue → Remains Goals
switched rows m e path targets others v = record { left = arms_of rows m e path targets others v.words; faults = pointer_fault v.places }

-- ---- returns

-- the result is stored where the call wants it
abbrev pub result_to : List FrameShape → List ℕ → ℕ → Option (ℕ × ℕ) → Option AbstractValue → Mem abstract_sets
    → Remains Goals
result_to rows path next (Some to) (Some v) m = goes_on (stored_through rows m (pointer_value to.0 to.1) v) (to_goal (Some (block_node path next)))
result_to rows path next None None m = to_goal (Some (block_node path next)) m
result_to rows path next (Some to) None m = nothing_left
result_to rows path next None (Some v) m = nothing_left

-- back to the call that stands in the caller's block
abbrev pub back_to : List FrameShape → List ℕ → Option BlockEnding → Option AbstractValue → Mem abstract_sets
    → Remains Goals
back_to rows path None v m = nothing_left
back_to rows path (Some (Fall next)) v m = nothing_left
back_to rows path (Some (Jump to)) v m = nothing_left
back_to rows path (Some (Switch value targets others)) v m = nothing_left
back_to rows path (Some (Call f args result next)) v m = result_to rows path next result v m
back_to rows path (Some (Return value)) v m = nothing_left

-- an instance is left: the root's return ends the run, any other goes back to its call
abbrev pub leave_to : NumberedProgram → List ℕ → Option AbstractValue → Mem abstract_sets → Remains Goals
leave_to program [] v m = to_goal None (left abstract_sets m program.root)
leave_to program (b ∷ path) v m =
    back_to (frames_of program) path (ending_at program (function_at program path) b) v (left abstract_sets m (function_at program (b ∷ path)))

-- ---- a step

-- a call enters the function with the values of its arguments, and moves to the entry
abbrev pub call_to : NumberedProgram → List ℕ → ℕ → ℕ → Mem abstract_sets → List AbstractValue → Remains Goals
call_to program path b f m vs = to_goal (Some (entry_node (b ∷ path))) (entered_with program f vs m)

-- a block goes on to the next, jumps, switches, calls or returns
abbrev pub end_at : NumberedProgram → List ℕ → ℕ → BlockEnding → Mem abstract_sets → Remains Goals
end_at program path b (Fall next) m = to_goal (Some (block_node path next)) m
end_at program path b (Jump to) m = to_goal (Some (block_node path to)) m
end_at program path b (Switch value targets others) m = goes_on (value_at (frames_of program) m value) (switched (frames_of program) m value path targets others)
end_at program path b (Call f args result next) m = goes_on (arguments_at (frames_of program) m args) (call_to program path b f m)
end_at program path b (Return None) m = leave_to program path None m
end_at program path b (Return (Some value)) m = goes_on (value_at (frames_of program) m value) (λ v. leave_to program path (Some v) m)

-- the block's statements come first, in order
abbrev pub block_at : NumberedProgram → List ℕ → ℕ → Option NumberedBlock → Mem abstract_sets → Remains Goals
block_at program path b None m = nothing_left
block_at program path b (Some block) m = goes_on (after_statements (frames_of program) block.statements m) (end_at program path b block.ending)

-- an entry only moves on to block 0
abbrev pub step_at : NumberedProgram → List ℕ → Option ℕ → Mem abstract_sets → Remains Goals
step_at program path None m = to_goal (Some (block_node path 0)) m
step_at program path (Some b) m = block_at program path b (slice_get (blocks_at program (function_at program path)) b) m

-- the goals, if some are left
abbrev pub goals_left : Option Goals → Goals
goals_left None = []
goals_left (Some goals) = goals
