-- On the way to the laws of transfer.
use Rattle.std.specs.Prelude.{List, Option, Result, Ok, Err, IsSomeAnd}
use Rattle.std.proofs.Common.{sym, subst}
use Rattle.alf_ops.specs.declared.history.Value.{Value}
use Rattle.alf_ops.specs.declared.history.RunFault.{RunFault}
use Rattle.alf_check.specs.declared.rows.InputRow.{InputRow}
use Rattle.alf_check.specs.CheckedPrograms.{NumberedProgram}
use Rattle.alf_check.specs.Kept.{IsKept}
use Rattle.alf_check.specs.Inputs.{KeepInputs}
use Rattle.flow_graph.specs.Numbering.{GraphParts, IsGraph}
use Rattle.alf_runs.specs.Expressions.{value_of}
use Rattle.pointer_rules.specs.AbstractValues.{AbstractValue, Covers}
use Rattle.memory_rules.specs.ValueSets.{OnlyCovers}
use Rattle.memory_rules.specs.AbstractSets.{abstract_sets}
use Rattle.transfer_rules.specs.Remains.{Remains}
use Rattle.transfer_rules.specs.Evaluating.{value_at}
use Rattle.transfer_rules.specs.Machines.{memory_order, KeepsMachine, StepPromises}
use Rattle.transfer_rules.specs.RemainsLaws.{Answers, none_is_empty, only_is_one}
use Rattle.transfer_rules.specs.AddressFaultLaws.{address_told, address_from}
use Rattle.transfer_rules.specs.Standing.{ValueTold}
use Rattle.transfer_rules.specs.EvaluatingLaws.{value_told}
use Rattle.transfer_rules.specs.MachineLaws.{own_order_suits, is_machine, is_along}
use Rattle.transfer_rules.specs.TransferLaws.{AddressFaultsTold, Tells, OnlyTells, ExpressionsTell, ExpressionsTellOnly, TransferIsMachine, TransferGoesAlong}

-- ---- addresses

pub address_faults_told : AddressFaultsTold
address_faults_told rows runs at size fault is = (address_from rows runs at size fault is, address_told rows runs at size fault is)

-- ---- expressions

tells_of : (r : Remains AbstractValue) (result : Result Value RunFault) → Answers ⊥ (ValueTold ⊥) r result
    → Tells r result
tells_of r (Ok value) told = subst (λ (o : Option AbstractValue). IsSomeAnd o (λ v. Covers v value)) (sym told.is) told.holds.covers
tells_of r (Err fault) told = told.told

only_of : (r : Remains AbstractValue) (result : Result Value RunFault)
    → Answers (Unit {0}) (ValueTold (Unit {0})) r result → OnlyTells r result
only_of r (Ok value) told = (
  subst (λ (o : Option AbstractValue). IsSomeAnd o (λ v. OnlyCovers abstract_sets v value)) (sym told.is) (told.holds.only tt),
  none_is_empty r.faults (told.none tt),
)
only_of r (Err fault) told = (told.alone tt, only_is_one r.faults fault told.told (told.one tt))

pub expressions_tell : ExpressionsTell
expressions_tell table rows m history k size e has sound sized covers =
    tells_of (value_at rows m e) (value_of rows history e)
    (value_told ⊥ rows m history (record { sound = sound; sized = sized; covers = covers; sharp = λ s. absurd s }) table k e size has)

pub expressions_tell_only : ExpressionsTellOnly
expressions_tell_only table rows m history k size e has sound sized sharp =
    only_of (value_at rows m e) (value_of rows history e)
    (value_told (Unit {0}) rows m history (record {
      sound = sound;
      sized = sized;
      covers = record { active = sharp.active; frames = λ frame row found runs. (sharp.frames frame row found runs).covers };
      sharp = λ s. sharp;
    }) table k e size has)

-- ---- the machine

kept_of : (program : NumberedProgram) (graph : GraphParts) (rows : List InputRow) → StepPromises → IsKept program
    → IsGraph program graph → KeepInputs program rows → KeepsMachine program graph rows
kept_of program graph rows promises keeps is inputs = record { keeps = keeps; is = is; inputs = inputs; promises = promises }

pub transfer_is_machine : StepPromises → TransferIsMachine
transfer_is_machine promises program graph rows keeps is inputs =
    is_machine program graph rows (kept_of program graph rows promises keeps is inputs) (memory_order program) (own_order_suits program)

pub transfer_goes_along : StepPromises → TransferGoesAlong
transfer_goes_along promises program graph rows o keeps is inputs edges count = is_along program graph rows (kept_of program graph rows promises keeps is inputs) o edges count
