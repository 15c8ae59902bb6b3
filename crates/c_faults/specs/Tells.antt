-- What a check tells that may want memory.
--   Tells result faults   where the check passes there is no fault, and where it stops at one, that is the first
use Rattle.std.specs.Prelude.{◌≡◌, List, [], Some, Result, Ok, Err, ⊤}
use Rattle.c_rules.specs.Faults.{Fault, earliest}
use Rattle.c_scopes.specs.FirstFault.{fault_of}
use Rattle.c_faults.specs.declared.stop.Stop.{Stop}
use Rattle.c_faults.specs.declared.stop.Stop.TheVariants as stops

abbrev pub Tells : {A : Type 0} → Result A Stop → List Fault → Type 0
Tells (Ok value) faults = faults ≡ []
Tells (Err (stops.Fault fault)) faults = earliest faults ≡ Some (fault_of fault)
Tells (Err stops.Memory) faults = ⊤
