-- Steps of small programs, to be worked out.
--   one_block e targets others   a program with a global frame of 8 bits, whose block 0 switches on the
--       expression
--   ranged low high              an input in this frame
--   stepped program rows         the goals of a step from block 0 at the start, each with what the frame
--       holds there, and the faults
--   cut_to e low high bit        what the frame holds where the comparison gives this bit
--   one_call, called, returned   a program with one call; the goals of the call, and of the return
use Rattle.std.specs.Prelude.{ℕ, ℤ, false, List, [], ◌∷◌, map, Option, Some, None}
use Rattle.std.specs.Option.{option_and_then}
use Rattle.alf_ops.specs.declared.operator.Op.{Op}
use Rattle.alf_program.specs.Tree.{NumberedExpression, Number, Address, Load, Apply, Empty, With}
use Rattle.alf_check.specs.declared.rows.InputRow.{InputRow}
use Rattle.alf_check.specs.CheckedPrograms.{BlockEnding, Switch, Call, Return, NumberedBlock, NumberedProgram}
use Rattle.flow_graph.specs.Nodes.{Goal}
use Rattle.alf_runs.specs.Steps.{frames_of}
use Rattle.strided_rules.specs.Strides.{one_word}
use Rattle.domain_core.specs.declared.fault_set.FaultSet.{FaultSet}
use Rattle.pointer_rules.specs.AbstractValues.{AbstractValue}
use Rattle.memory_rules.specs.Memories.{Mem, fresh}
use Rattle.memory_rules.specs.AbstractSets.{abstract_sets}
use Rattle.transfer_rules.specs.Evaluating.{value_at}
use Rattle.transfer_rules.specs.Filling.{first_memory}
use Rattle.transfer_rules.specs.Refining.{refined}
use Rattle.transfer_rules.specs.Stepping.{Goals, step_at, goals_left}

abbrev block : BlockEnding → NumberedBlock
block ending = record { statements = []; ending = ending }

-- a program whose block 0 switches on the expression
abbrev pub one_block : NumberedExpression → List (ℕ × ℕ) → ℕ → NumberedProgram
one_block e targets others = record {
  frames = record { owner = None; name = []; bits = 8 } ∷ [];
  funcs = record { name = []; args = []; frames = []; inits = []; blocks = block (Switch e targets others) ∷ block (Return None) ∷ block (Return None) ∷ [] } ∷ [];
  inits = [];
  exports = [];
  root = 0;
}

-- what the frame holds
abbrev pub content : NumberedExpression
content = Load 8 (Address 0 0)

abbrev pub number : ℕ → ℕ → NumberedExpression
number size bits = Number (record { signed = false; size = size; bits = bits })

-- an operator of one size with two operands
abbrev pub both_of : Op → NumberedExpression → NumberedExpression → NumberedExpression
both_of op a b = Apply op (8 ∷ []) (With a (With b Empty))

-- an input in the frame
abbrev pub ranged : ℤ → ℤ → List InputRow
ranged low high = record { frame = 0; offset = 0; size = 8; low = low; high = high } ∷ []

abbrev held : NumberedProgram → Goal × Mem abstract_sets → Goal × Option AbstractValue
held program goal = (goal.0, (value_at (frames_of program) goal.1 content).left)

-- the goals of a step from block 0 at the start, each with what the frame holds there, and the faults
abbrev pub stepped : NumberedProgram → List InputRow → List (Goal × Option AbstractValue) × FaultSet
stepped program rows =
    let r = step_at program [] (Some 0) (first_memory program rows) in
    (map (held program) (goals_left r.left), r.faults)

-- what the frame holds where the comparison gives this bit
abbrev pub cut_to : NumberedExpression → ℤ → ℤ → ℕ → Option AbstractValue
cut_to e low high bit =
    let program = one_block e [] 1 in
    option_and_then (λ m. (value_at (frames_of program) m content).left) (refined (frames_of program) (first_memory program (ranged low high)) e (one_word 1 bit))

-- ---- a call

-- main calls f with 4, and keeps what it returns in the global frame; f returns its argument
abbrev pub one_call : NumberedProgram
one_call = record {
  frames = record { owner = None; name = []; bits = 8 } ∷ record { owner = Some 1; name = []; bits = 8 } ∷ [];
  funcs =
      record { name = []; args = []; frames = []; inits = []; blocks = block (Call 1 (number 8 4 ∷ []) (Some (0, 0)) 1) ∷ block (Return None) ∷ [] }
      ∷ record { name = []; args = 1 ∷ []; frames = 1 ∷ []; inits = []; blocks = block (Return (Some (Load 8 (Address 1 0)))) ∷ [] } ∷ [];
  inits = [];
  exports = [];
  root = 0;
}

-- the memory of the first goal
abbrev first_of : Goals → Mem abstract_sets
first_of [] = fresh abstract_sets
first_of (goal ∷ goals) = goal.1

-- the goals of the call, and those of the return with what the global frame holds then
abbrev pub called : List Goal
called = map (λ goal. goal.0) (goals_left (step_at one_call [] (Some 0) (first_memory one_call [])).left)

abbrev pub returned : List (Goal × Option AbstractValue) × FaultSet
returned =
    let r = step_at one_call (0 ∷ []) (Some 0) (first_of (goals_left (step_at one_call [] (Some 0) (first_memory one_call [])).left)) in
    (map (held one_call) (goals_left r.left), r.faults)
