-- The test whether some fault is in a set.
--   or_right     what makes the right side true makes both
--   some_fault   a set with a fault may fault
use Rattle.std.proofs.Common.{◌≡◌, Bool, true, false, ◌||◌, refl}
use Rattle.alf_ops.specs.declared.history.RunFault.{RunFault}
use Rattle.alf_ops.specs.declared.history.RunFault.TheVariants.{Divide, Uninit, Mixed, Bounds, Dead, Kind, Pointers}
use Rattle.domain_core.specs.declared.fault_set.FaultSet.{FaultSet}
use Rattle.domain_core.specs.FaultSets.{has_fault}
use Rattle.worklist_rules.specs.Pools.{may_fault}

pub or_right : (a b : Bool) → b ≡ true → a || b ≡ true
or_right true b e = refl
or_right false b e = e

-- a set with a fault may fault
pub some_fault : (set : FaultSet) (kind : RunFault) → has_fault set kind ≡ true → may_fault set ≡ true
some_fault set Divide has = rw has refl
some_fault set Uninit has = or_right set.divide (set.uninit || (set.mixed || (set.bounds || (set.dead || (set.kind || set.pointers))))) (rw has refl)
some_fault set Mixed has =
    or_right set.divide (set.uninit || (set.mixed || (set.bounds || (set.dead || (set.kind || set.pointers)))))
    (or_right set.uninit (set.mixed || (set.bounds || (set.dead || (set.kind || set.pointers)))) (rw has refl))
some_fault set Bounds has =
    or_right set.divide (set.uninit || (set.mixed || (set.bounds || (set.dead || (set.kind || set.pointers)))))
    (or_right set.uninit (set.mixed || (set.bounds || (set.dead || (set.kind || set.pointers)))) (or_right set.mixed (set.bounds || (set.dead || (set.kind || set.pointers))) (rw has refl)))
some_fault set Dead has =
    or_right set.divide (set.uninit || (set.mixed || (set.bounds || (set.dead || (set.kind || set.pointers)))))
    (or_right set.uninit (set.mixed || (set.bounds || (set.dead || (set.kind || set.pointers))))
    (or_right set.mixed (set.bounds || (set.dead || (set.kind || set.pointers))) (or_right set.bounds (set.dead || (set.kind || set.pointers)) (rw has refl))))
some_fault set Kind has =
    or_right set.divide (set.uninit || (set.mixed || (set.bounds || (set.dead || (set.kind || set.pointers)))))
    (or_right set.uninit (set.mixed || (set.bounds || (set.dead || (set.kind || set.pointers))))
    (or_right set.mixed (set.bounds || (set.dead || (set.kind || set.pointers))) (or_right set.bounds (set.dead || (set.kind || set.pointers)) (or_right set.dead (set.kind || set.pointers) (rw has refl)))))
some_fault set Pointers has =
    or_right set.divide (set.uninit || (set.mixed || (set.bounds || (set.dead || (set.kind || set.pointers)))))
    (or_right set.uninit (set.mixed || (set.bounds || (set.dead || (set.kind || set.pointers))))
    (or_right set.mixed (set.bounds || (set.dead || (set.kind || set.pointers)))
    (or_right set.bounds (set.dead || (set.kind || set.pointers)) (or_right set.dead (set.kind || set.pointers) (or_right set.kind set.pointers has)))))
