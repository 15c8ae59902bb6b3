-- What a node's step does, but for the number of the next node.
--   GoesOn memory block moment     the run goes on at a node with this block, or an entry, with a history for which the memory stands
--   Turns memory moment result     what the step does is what the run does
--   IsInstance program path func   the call path leads to this function
--   IsCaller program path block caller   where the block returns, the caller is the function of the last call
--   IsTaken path value             what is returned can be stored, if there is a call that it goes back to
--   IsKeptCall program f args      some block calls the function with these arguments
use Rattle.std.specs.Prelude.{◌≡◌, ◌<◌, ℕ, List, [], ◌∷◌, length, Option, Some, None, IfSome, Result, Ok, Err}
use Rattle.alf_ops.specs.declared.history.Value.{Value}
use Rattle.alf_program.specs.Tree.{NumberedExpression}
use Rattle.alf_check.specs.CheckedPrograms.{NumberedProgram, Return}
use Rattle.alf_check.specs.Kept.{CallKeeps}
use Rattle.alf_ops.specs.declared.history.RunEvent.{RunEvent}
use Rattle.alf_values.specs.declared.fault.ValueFault.{ValueFault}
use Rattle.alf_values.specs.declared.fault.ValueFault.TheVariants.{Run, Memory}
use Rattle.alf_values.specs.Memories.{RunMemory}
use Rattle.alf_values.specs.Standing.{StandsFor, IsStorable}
use Rattle.flow_graph.specs.Nodes.{Node, ending_at, function_at}
use Rattle.flow_graph.specs.Paths.{IsCallPath}
use Rattle.alf_runs.specs.Outcomes.{Ended, Faulted}
use Rattle.alf_runs.specs.Steps.{Moment, At, Over}
use Rattle.alf_interp.specs.declared.turn.Turn.{Turn}
use Rattle.alf_interp.specs.declared.turn.Turn.TheVariants as turns
use Rattle.alf_interp.specs.Telling.{outputs_of}

-- the run goes on at a node with this block, or an entry, with a history for which the memory stands
pub record GoesOn (memory : RunMemory) (block : Option ℕ) (moment : Moment) : Type 0 where
  pub node : Node
  pub history : List RunEvent
  pub is : moment ≡ At node history
  pub block_is : node.block ≡ block
  pub stands : StandsFor memory history

-- what the step does is what the run does; a want of memory tells nothing
abbrev pub Turns : RunMemory → Moment → Result Turn ValueFault → Type 0
Turns memory moment (Ok (turns.On block)) = GoesOn memory block moment
Turns memory moment (Ok (turns.Ended outputs)) = moment ≡ Over (Ended (outputs_of outputs))
Turns memory moment (Err (Run fault)) = moment ≡ Over (Faulted fault)
Turns memory moment (Err Memory) = Unit {0}

-- the call path leads to this function
pub record IsInstance (program : NumberedProgram) (path : List ℕ) (func : ℕ) : Type 0 where
  pub calls : IsCallPath program path
  pub func_is : func ≡ function_at program path
  pub there : func < length program.funcs

-- the function of the last call of a path
abbrev pub IsCallerOf : NumberedProgram → List ℕ → ℕ → Type 0
IsCallerOf program [] caller = Unit {0}
IsCallerOf program (b ∷ path) caller = caller ≡ function_at program path

-- where the block returns, the caller is the function of the last call
abbrev pub IsCaller : NumberedProgram → List ℕ → Option ℕ → ℕ → Type 0
IsCaller program path None caller = Unit {0}
IsCaller program path (Some b) caller = (value : Option NumberedExpression) → ending_at program (function_at program path) b ≡ Some (Return value) → IsCallerOf program path caller

-- what is returned can be stored, if there is a call that it goes back to
abbrev pub IsTaken : List ℕ → Option Value → Type 0
IsTaken [] value = Unit {0}
IsTaken (b ∷ path) value = IfSome value IsStorable

-- some block calls the function with these arguments
pub record IsKeptCall (program : NumberedProgram) (f : ℕ) (args : List NumberedExpression) : Type 0 where
  pub caller : ℕ
  pub block : ℕ
  pub result : Option (ℕ × ℕ)
  pub next : ℕ
  pub keeps : CallKeeps program caller block f args result next
