-- Runs of a concrete system that end, written by their nodes, and what a pool has collected of them.
--   EndsWith system n c fault       a run ends at the node with the value, with this fault if with one
--   Passes system n c trace fault   from there a run goes on through the nodes of the trace, and ends so
--   RunEnds system run              the run of moments passes so from its start
--   FaultIsTold alarms n fault      the fault, if any, was told at the node
--   IsSummed z w trace fault        the book sums the trace up, its nodes were stepped, and the fault was told at its last one
--   EachIsSummed machine z w        each run ends, and each run that ends is summed up
use Rattle.std.specs.Prelude.{◌≡◌, ℕ, true, List, [], ◌∷◌, Option, Some, None, reverse}
use Rattle.alf_ops.specs.declared.history.RunFault.{RunFault}
use Rattle.domain_core.specs.declared.fault_set.FaultSet.{FaultSet}
use Rattle.domain_core.specs.FaultSets.{has_fault}
use Rattle.domain_core.specs.Outlines.{shape_of}
use Rattle.domain_core.specs.Traces.{IsTrace}
use Rattle.domain_core.specs.Machines.{System, Machine}
use Rattle.domain_core.specs.SystemRuns.{IsRun}
use Rattle.domain_core.specs.Recordings.{Recording}
use Rattle.worklist_rules.specs.Pools.{Pooled, alarm_at}
use Rattle.worklist_rules.specs.Runs.{AllStepped}

-- a run ends at the node with the value, with this fault if with one
abbrev pub EndsWith : {C : Type 0} → System C → ℕ → C → Option RunFault → Type 0
EndsWith system n c None = system.ends n c
EndsWith system n c (Some fault) = system.fails n c fault

-- from there a run goes on through the nodes of the trace, and ends so
pub data Passes {C : Type 0} (system : System C) : ℕ → C → List ℕ → Option RunFault → Type 0 where
  stops : {n : ℕ} {c : C} {fault : Option RunFault} → EndsWith system n c fault → Passes system n c (n ∷ []) fault
  moves : {n k : ℕ} {c d : C} {trace : List ℕ} {fault : Option RunFault} → system.goes n c k d
      → Passes system k d trace fault → Passes system n c (n ∷ trace) fault

-- the run of moments passes so from its start
pub record RunEnds {C : Type 0} (system : System C) (run : ℕ → Option (ℕ × C)) : Type 0 where
  pub start : C
  pub here : run 0 ≡ Some (0, start)
  pub starts : system.starts start
  pub trace : List ℕ
  pub fault : Option RunFault
  pub passes : Passes system 0 start trace fault

-- the fault, if any, was told at the node
abbrev pub FaultIsTold : List FaultSet → ℕ → Option RunFault → Type 0
FaultIsTold alarms n None = Unit {0}
FaultIsTold alarms n (Some fault) = has_fault (alarm_at alarms n) fault ≡ true

-- the book sums the trace up, its nodes were stepped, and the fault was told at its last one
pub record IsSummed {S T R B : Type 0} (z : Recording R B) (w : Pooled S T R B) (trace : List ℕ)
    (fault : Option RunFault) : Type 0 where
  pub past : List ℕ
  pub last : ℕ
  pub turned : reverse (last ∷ past) ≡ trace
  pub walk : IsTrace (shape_of w.outline) (last ∷ past)
  pub summed : z.sums_up w.outline w.book (last ∷ past)
  pub stepped : AllStepped w.stepped (last ∷ past)
  pub told : FaultIsTold w.alarms last fault

-- each run ends, and each run that ends is summed up
pub record EachIsSummed {S T C R B : Type 0} (machine : S → Machine T C) (z : Recording R B)
    (w : Pooled S T R B) : Type 0 where
  pub ends : (run : ℕ → Option (ℕ × C)) → IsRun (machine w.stepper).system run → RunEnds (machine w.stepper).system run
  pub right : (c : C) (trace : List ℕ) (fault : Option RunFault) → (machine w.stepper).system.starts c
      → Passes (machine w.stepper).system 0 c trace fault → IsSummed z w trace fault
