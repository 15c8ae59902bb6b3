-- What a fault that was found stands for.
--   told found       the fault
--   fault_of fault   the fault, by names of its own
use Rattle.alf_faults.specs.Fault.{Fault, Duplicate, Unknown, Size}
use Rattle.alf_faults.specs.Duplicates.{number_twice}
use Rattle.alf_faults.specs.declared.findings.Found.{Found}
use Rattle.alf_faults.specs.declared.findings.Found.TheVariants as found
use Rattle.alf_faults.specs.declared.item_faults.ItemFault.{ItemFault}
use Rattle.alf_faults.specs.declared.item_faults.ItemFault.TheVariants as owned

abbrev pub told : Found → Fault
told (found.Duplicate name) = Duplicate name.now
told (found.Repeated number) = number_twice number
told (found.Unknown name) = Unknown name.now
told (found.Size name number) = Size name.now number

abbrev pub fault_of : ItemFault → Fault
fault_of (owned.Unknown name) = Unknown name
fault_of (owned.Duplicate name) = Duplicate name
fault_of (owned.Size name number) = Size name number
