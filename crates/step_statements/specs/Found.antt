-- What code finds, as what remains.
--   found answer      a value, if there is one, and the faults
--   founds answer     values in a row
--   one_operand a, two_operands a b, three_operands a b c   values of operands in a row; after one without a value nothing is told
--   done answer m     whether some run goes on, with this memory, and the faults
use Rattle.std.specs.Prelude.{Bool, Option, Some, None, List, [], Vec, if◌then◌else◌}
use Rattle.std.specs.Option.{option_map}
use Rattle.std.specs.declared.alloc.Global.{Global}
use Rattle.domain_core.specs.declared.fault_set.FaultSet.{FaultSet}
use Rattle.pointer_rules.specs.AbstractValues.{AbstractValue}
use Rattle.memory_rules.specs.Memories.{Mem}
use Rattle.memory_rules.specs.AbstractSets.{abstract_sets}
use Rattle.transfer_rules.specs.Remains.{Remains, all_left, goes_on}
use Rattle.transfer_rules.specs.Evaluating.{before}

-- a value, if there is one, and the faults
abbrev pub found : Option AbstractValue × FaultSet → Remains AbstractValue
found answer = record { left = answer.0; faults = answer.1 }

-- values in a row
abbrev pub founds : Option (Vec AbstractValue Global) × FaultSet → Remains (List AbstractValue)
founds answer = record { left = option_map (λ values. values.items) answer.0; faults = answer.1 }

-- values of operands in a row; after one without a value nothing is told
abbrev pub one_operand : Remains AbstractValue → Remains (List AbstractValue)
one_operand a = goes_on a (before (all_left []))

abbrev pub two_operands : Remains AbstractValue → Remains AbstractValue → Remains (List AbstractValue)
two_operands a b = goes_on a (before (one_operand b))

abbrev pub three_operands : Remains AbstractValue → Remains AbstractValue → Remains AbstractValue
    → Remains (List AbstractValue)
three_operands a b c = goes_on a (before (two_operands b c))

-- whether some run goes on, with this memory, and the faults
abbrev pub done : Bool × FaultSet → Mem abstract_sets → Remains (Mem abstract_sets)
done answer m = record { left = if answer.0 then Some m else None; faults = answer.1 }
