use Rattle.std.proofs.Common.{◌≡◌, List, [], ◌∷◌, ◌++◌, map, Result, Ok, Err, refl}
use Rattle.alf_ops.specs.declared.history.Value.{Value}
use Rattle.alf_ops.specs.declared.history.RunFault.{RunFault}
use Rattle.alf_ops.specs.Pointers.{operands}
use Rattle.alf_ops.proofs.laws.operands_fault_from_left_to_right.Goals as goal

first_fault : (values : List Value) (fault : RunFault) (results : List (Result Value RunFault))
    → operands (map Ok values ++ Err fault ∷ results) ≡ Err fault
first_fault [] fault results = refl
first_fault (value ∷ values) fault results = rw (first_fault values fault results) refl

pub returns : goal.returns
returns c = first_fault
