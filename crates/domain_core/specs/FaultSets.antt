-- Sets of faults.
--   has_fault set kind   the kind is in the set
--   no_faults            the empty set
--   with_fault set kind  the set and this kind
--   either a b           what is in one of the two
use Rattle.std.specs.Prelude.{Bool, true, false, ◌||◌}
use Rattle.alf_ops.specs.declared.history.RunFault.{RunFault}
use Rattle.alf_ops.specs.declared.history.RunFault.TheVariants.{Divide, Uninit, Mixed, Bounds, Dead, Kind, Pointers}
use Rattle.domain_core.specs.declared.fault_set.FaultSet.{FaultSet}

-- the kind is in the set
abbrev pub has_fault : FaultSet → RunFault → Bool
has_fault set Divide = set.divide
has_fault set Uninit = set.uninit
has_fault set Mixed = set.mixed
has_fault set Bounds = set.bounds
has_fault set Dead = set.dead
has_fault set Kind = set.kind
has_fault set Pointers = set.pointers

-- the empty set
abbrev pub no_faults : FaultSet
no_faults = record { divide = false; uninit = false; mixed = false; bounds = false; dead = false; kind = false; pointers = false }

-- the set and this kind
abbrev pub with_fault : FaultSet → RunFault → FaultSet
with_fault set Divide = record set { divide = true }
with_fault set Uninit = record set { uninit = true }
with_fault set Mixed = record set { mixed = true }
with_fault set Bounds = record set { bounds = true }
with_fault set Dead = record set { dead = true }
with_fault set Kind = record set { kind = true }
with_fault set Pointers = record set { pointers = true }

-- what is in one of the two
abbrev pub either : FaultSet → FaultSet → FaultSet
either a b = record {
  divide = a.divide || b.divide;
  uninit = a.uninit || b.uninit;
  mixed = a.mixed || b.mixed;
  bounds = a.bounds || b.bounds;
  dead = a.dead || b.dead;
  kind = a.kind || b.kind;
  pointers = a.pointers || b.pointers;
}
