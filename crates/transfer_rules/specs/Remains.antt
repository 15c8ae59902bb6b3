-- What is left where a run may end with a fault: evaluation goes on with it, and the faults are united.
--   Remains A            what is left, if something is, and the faults that some run may end with
--   all_left a           this is left, and no fault
--   goes_on r further    what further makes of what is left; where nothing is left it ends
use Rattle.std.specs.Prelude.{Option, Some, None}
use Rattle.domain_core.specs.declared.fault_set.FaultSet.{FaultSet}
use Rattle.domain_core.specs.FaultSets.{no_faults, either}

pub record Remains (A : Type 0) : Type 0 where
  pub left : Option A
  pub faults : FaultSet

-- this is left, and no fault
abbrev pub all_left : {A : Type 0} → A → Remains A
all_left a = record { left = Some a; faults = no_faults }

-- nothing is left, without a fault: no run comes here
abbrev pub nothing_left : {A : Type 0} → Remains A
nothing_left = record { left = None; faults = no_faults }

abbrev pub with_faults : {A : Type 0} → FaultSet → Remains A → Remains A
with_faults faults r = record { left = r.left; faults = either faults r.faults }

abbrev pub onward : {A B : Type 0} → FaultSet → Option A → (A → Remains B) → Remains B
onward faults None further = record { left = None; faults = faults }
onward faults (Some a) further = with_faults faults (further a)

-- what further makes of what is left
abbrev pub goes_on : {A B : Type 0} → Remains A → (A → Remains B) → Remains B
goes_on r further = onward r.faults r.left further
