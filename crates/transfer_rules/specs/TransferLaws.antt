-- What the transfer promises, for functions whose clauses are the laws.
--   AddressFaultsTold             a fault is told of an address exactly where some address that it covers
--       has it
--   Tells, OnlyTells              of an expression: the run's value is covered, or its fault told; exactly
--       these
--   ExpressionsTell, ExpressionsTellOnly
--   TransferIsMachine             the transfer is an abstract machine for the points of runs
--   TransferGoesAlong             its steps lie along the edges of the graph's outline
use Rattle.std.specs.Prelude.{◌≡◌, ◌↔◌, ℕ, Bool, true, List, length, None, Result, Ok, Err, IsSomeAnd}
use Rattle.alf_ops.specs.declared.history.Value.{Value}
use Rattle.alf_ops.specs.declared.history.RunFault.{RunFault}
use Rattle.alf_ops.specs.declared.history.FrameShape.{FrameShape}
use Rattle.alf_ops.specs.declared.history.RunEvent.{RunEvent}
use Rattle.alf_ops.specs.Histories.{IsSoundHistory}
use Rattle.alf_program.specs.Tree.{NumberedExpression}
use Rattle.alf_check.specs.declared.rows.FrameRow.{FrameRow}
use Rattle.alf_check.specs.declared.rows.InputRow.{InputRow}
use Rattle.alf_check.specs.CheckedPrograms.{NumberedProgram}
use Rattle.alf_check.specs.Kept.{IsKept, HasSize}
use Rattle.alf_check.specs.Inputs.{KeepInputs}
use Rattle.flow_graph.specs.Numbering.{GraphParts, IsGraph}
use Rattle.alf_runs.specs.Expressions.{value_of}
use Rattle.domain_core.specs.FaultSets.{has_fault, no_faults, with_fault}
use Rattle.domain_core.specs.Machines.{IsMachine, IsAlong}
use Rattle.domain_core.specs.Outlines.{Shape}
use Rattle.pointer_rules.specs.AbstractValues.{AbstractValue, Covers}
use Rattle.pointer_rules.specs.Covering.{IsValue}
use Rattle.memory_rules.specs.ValueSets.{OnlyCovers}
use Rattle.memory_rules.specs.Memories.{Mem, MemCovers, MemSharp, MemSized}
use Rattle.memory_rules.specs.Addresses.{IsAddressFault}
use Rattle.memory_rules.specs.AbstractSets.{abstract_sets}
use Rattle.transfer_rules.specs.Remains.{Remains}
use Rattle.transfer_rules.specs.AddressFaults.{address_faults}
use Rattle.transfer_rules.specs.Evaluating.{value_at}
use Rattle.transfer_rules.specs.Machines.{memory_order, run_machine}

-- ---- addresses

-- a fault is told of an address exactly where some address that it covers has it
abbrev pub AddressFaultsTold : Type 0
AddressFaultsTold = (rows : List FrameShape) (runs : ℕ → Bool) (at : AbstractValue) (size : ℕ) (fault : RunFault) → IsValue 32 at
    → (has_fault (address_faults rows runs at size) fault ≡ true) ↔ IsAddressFault rows runs at size fault

-- ---- expressions

-- the run's value is covered, or its fault told
abbrev pub Tells : Remains AbstractValue → Result Value RunFault → Type 0
Tells r (Ok value) = IsSomeAnd r.left (λ v. Covers v value)
Tells r (Err fault) = has_fault r.faults fault ≡ true

-- exactly the run's value and no fault, or exactly its fault and no value
abbrev pub OnlyTells : Remains AbstractValue → Result Value RunFault → Type 0
OnlyTells r (Ok value) = IsSomeAnd r.left (λ v. OnlyCovers abstract_sets v value) × (r.faults ≡ no_faults)
OnlyTells r (Err fault) = (r.left ≡ None) × (r.faults ≡ with_fault no_faults fault)

-- an expression over a memory that covers the history
abbrev pub ExpressionsTell : Type 0
ExpressionsTell = (table : List FrameRow) (rows : List FrameShape) (m : Mem abstract_sets) (history : List RunEvent) (k size : ℕ) (e : NumberedExpression) → HasSize table k size e
    → IsSoundHistory history → MemSized abstract_sets m → MemCovers abstract_sets rows m history → Tells (value_at rows m e) (value_of rows history e)

-- and over a memory that is sharp for it
abbrev pub ExpressionsTellOnly : Type 0
ExpressionsTellOnly = (table : List FrameRow) (rows : List FrameShape) (m : Mem abstract_sets) (history : List RunEvent) (k size : ℕ) (e : NumberedExpression) → HasSize table k size e
    → IsSoundHistory history → MemSized abstract_sets m → MemSharp abstract_sets rows m history → OnlyTells (value_at rows m e) (value_of rows history e)

-- ---- the machine

-- the transfer is an abstract machine for the points of runs
abbrev pub TransferIsMachine : Type 0
TransferIsMachine = (program : NumberedProgram) (graph : GraphParts) (rows : List InputRow) → IsKept program → IsGraph program graph → KeepInputs program rows
    → IsMachine (Mem abstract_sets) (List RunEvent) (memory_order program) (run_machine program graph rows)

-- its steps lie along the edges of the graph's outline
abbrev pub TransferGoesAlong : Type 0
TransferGoesAlong = (program : NumberedProgram) (graph : GraphParts) (rows : List InputRow) (o : Shape) → IsKept program → IsGraph program graph → KeepInputs program rows
    → o.edges ≡ graph.edges → length o.own ≡ length graph.nodes → IsAlong (Mem abstract_sets) (List RunEvent) o (run_machine program graph rows)
