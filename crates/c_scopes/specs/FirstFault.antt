-- What a check tells: the first fault of a list, if there is one.
--   fault_of fault   the fault, as `c_rules` has it
--   told result      the fault that is told, if one is
use Rattle.std.specs.Prelude.{Option, Some, None, Result, Ok, Err}
use Rattle.c_rules.specs.Faults.{Fault, Unknown, Duplicate, Mistyped}
use Rattle.c_scopes.specs.declared.fault.Fault as code
use Rattle.c_scopes.specs.declared.fault.Fault.TheVariants as faults

abbrev pub fault_of : code.Fault → Fault
fault_of (faults.Unknown token) = Unknown token
fault_of (faults.Duplicate token) = Duplicate token
fault_of (faults.Mistyped token) = Mistyped token

-- the fault that is told, if one is
abbrev pub told : {A : Type 0} → Result A code.Fault → Option Fault
told (Ok value) = None
told (Err fault) = Some (fault_of fault)
