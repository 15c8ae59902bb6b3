-- What follows for sets of faults.
--   is_empty   the empty set has no fault
--   is_new, is_kept   a set with one more fault has this one, and of others those that it had
--   is_united  a union has the faults of both sides
use Rattle.std.proofs.Common.{◌≡◌, ◌≢◌, true, false, ◌||◌, refl}
use Rattle.alf_ops.specs.declared.history.RunFault.{RunFault}
use Rattle.alf_ops.specs.declared.history.RunFault.TheVariants.{Divide, Uninit, Mixed, Bounds, Dead, Kind, Pointers}
use Rattle.domain_core.specs.declared.fault_set.FaultSet.{FaultSet}
use Rattle.domain_core.specs.FaultSets.{has_fault, no_faults, with_fault, either}

pub is_empty : (kind : RunFault) → has_fault no_faults kind ≡ false
is_empty Divide = refl
is_empty Uninit = refl
is_empty Mixed = refl
is_empty Bounds = refl
is_empty Dead = refl
is_empty Kind = refl
is_empty Pointers = refl

pub is_new : (set : FaultSet) (kind : RunFault) → has_fault (with_fault set kind) kind ≡ true
is_new set Divide = refl
is_new set Uninit = refl
is_new set Mixed = refl
is_new set Bounds = refl
is_new set Dead = refl
is_new set Kind = refl
is_new set Pointers = refl

pub is_kept : (set : FaultSet) (kind other : RunFault) → kind ≢ other
    → has_fault (with_fault set kind) other ≡ has_fault set other
is_kept set Divide Divide apart = absurd (apart refl)
is_kept set Divide Uninit apart = refl
is_kept set Divide Mixed apart = refl
is_kept set Divide Bounds apart = refl
is_kept set Divide Dead apart = refl
is_kept set Divide Kind apart = refl
is_kept set Divide Pointers apart = refl
is_kept set Uninit Divide apart = refl
is_kept set Uninit Uninit apart = absurd (apart refl)
is_kept set Uninit Mixed apart = refl
is_kept set Uninit Bounds apart = refl
is_kept set Uninit Dead apart = refl
is_kept set Uninit Kind apart = refl
is_kept set Uninit Pointers apart = refl
is_kept set Mixed Divide apart = refl
is_kept set Mixed Uninit apart = refl
is_kept set Mixed Mixed apart = absurd (apart refl)
is_kept set Mixed Bounds apart = refl
is_kept set Mixed Dead apart = refl
is_kept set Mixed Kind apart = refl
is_kept set Mixed Pointers apart = refl
is_kept set Bounds Divide apart = refl
is_kept set Bounds Uninit apart = refl
is_kept set Bounds Mixed apart = refl
is_kept set Bounds Bounds apart = absurd (apart refl)
is_kept set Bounds Dead apart = refl
is_kept set Bounds Kind apart = refl
is_kept set Bounds Pointers apart = refl
is_kept set Dead Divide apart = refl
is_kept set Dead Uninit apart = refl
is_kept set Dead Mixed apart = refl
is_kept set Dead Bounds apart = refl
is_kept set Dead Dead apart = absurd (apart refl)
is_kept set Dead Kind apart = refl
is_kept set Dead Pointers apart = refl
is_kept set Kind Divide apart = refl
is_kept set Kind Uninit apart = refl
is_kept set Kind Mixed apart = refl
is_kept set Kind Bounds apart = refl
is_kept set Kind Dead apart = refl
is_kept set Kind Kind apart = absurd (apart refl)
is_kept set Kind Pointers apart = refl
is_kept set Pointers Divide apart = refl
is_kept set Pointers Uninit apart = refl
is_kept set Pointers Mixed apart = refl
is_kept set Pointers Bounds apart = refl
is_kept set Pointers Dead apart = refl
is_kept set Pointers Kind apart = refl
is_kept set Pointers Pointers apart = absurd (apart refl)

pub is_united : (a b : FaultSet) (kind : RunFault)
    → has_fault (either a b) kind ≡ (has_fault a kind || has_fault b kind)
is_united a b Divide = refl
is_united a b Uninit = refl
is_united a b Mixed = refl
is_united a b Bounds = refl
is_united a b Dead = refl
is_united a b Kind = refl
is_united a b Pointers = refl
