-- What a pool has of the runs of the concrete system.
--   Stands .. spot past n c   the place stands at the node with its position, and covers the value and the trace
--   IsWaited, IsOver     a place waits for the run; the run is over, and what it did was collected
--   EachRun, EachRunIsOver   so is each run
--   IsHandled            each way to go on from a point is waited for, or is over and collected
use Rattle.std.specs.Prelude.{◌≡◌, ℕ, suc, Bool, true, List, [], ◌∷◌, Option, Some, None, slice_get, Contains, ◌⊎◌}
use Rattle.alf_ops.specs.declared.history.RunFault.{RunFault}
use Rattle.domain_core.specs.FaultSets.{has_fault}
use Rattle.domain_core.specs.Outlines.{Outlined, shape_of}
use Rattle.domain_core.specs.Traces.{IsTrace}
use Rattle.domain_core.specs.Machines.{Machine}
use Rattle.domain_core.specs.SystemRuns.{IsRun, trace_to}
use Rattle.domain_core.specs.Recordings.{Recording}
use Rattle.worklist_rules.specs.Positions.{position_of}
use Rattle.worklist_rules.specs.Pools.{Spot, Pooled, alarm_at}

-- the place stands at the node with its position, and covers the value and the trace, whose newest node it is
pub record Stands {T C R B : Type 0} (o : Outlined) (m : Machine T C) (z : Recording R B) (book : B) (spot : Spot T R)
    (past : List ℕ) (n : ℕ) (c : C) : Type 0 where
  pub node : spot.node ≡ n
  pub position : spot.position ≡ position_of (shape_of o) (n ∷ past)
  pub walk : IsTrace (shape_of o) (n ∷ past)
  pub state : m.covers spot.state c
  pub recorder : z.covers o spot.recorder book (n ∷ past)

-- each node was stepped
abbrev pub AllStepped : List Bool → List ℕ → Type 0
AllStepped stepped [] = Unit {0}
AllStepped stepped (n ∷ past) = (slice_get stepped n ≡ Some true) × AllStepped stepped past

-- at some moment a place stands at the run's point and covers it and its trace so far, and all nodes before were
-- stepped
pub record IsWaited {S T C R B : Type 0} (m : Machine T C) (z : Recording R B) (w : Pooled S T R B)
    (run : ℕ → Option (ℕ × C)) : Type 0 where
  pub moment : ℕ
  pub node : ℕ
  pub value : C
  pub here : run moment ≡ Some (node, value)
  pub spot : Spot T R
  pub among : Contains w.spots spot
  pub stands : Stands w.outline m z w.book spot (trace_to run moment) node value
  pub before : AllStepped w.stepped (trace_to run moment)

-- how a run is over, and the fault, if it ends with one, was told
abbrev pub EndsTold : {S T C R B : Type 0} → Machine T C → Pooled S T R B → ℕ → C → Type 0
EndsTold m w n c = m.system.ends n c ⊎ ((kind : RunFault) × m.system.fails n c kind × (has_fault (alarm_at w.alarms n) kind ≡ true))

-- the run is over, the book covers its trace, its nodes were stepped, and its fault was told
pub record IsOver {S T C R B : Type 0} (m : Machine T C) (z : Recording R B) (w : Pooled S T R B)
    (run : ℕ → Option (ℕ × C)) : Type 0 where
  pub last : ℕ
  pub node : ℕ
  pub value : C
  pub here : run last ≡ Some (node, value)
  pub over : run (suc last) ≡ None
  pub way : EndsTold m w node value
  pub trace : IsTrace (shape_of w.outline) (node ∷ trace_to run last)
  pub summed : z.sums_up w.outline w.book (node ∷ trace_to run last)
  pub all : AllStepped w.stepped (node ∷ trace_to run last)

-- each run is waited for or is over
abbrev pub EachRun : {S T C R B : Type 0} → (S → Machine T C) → Recording R B → Pooled S T R B → Type 0
EachRun {C = C} machine z w = (run : ℕ → Option (ℕ × C)) → IsRun (machine w.stepper).system run → IsWaited (machine w.stepper) z w run ⊎ IsOver (machine w.stepper) z w run

-- each run is over
abbrev pub EachRunIsOver : {S T C R B : Type 0} → (S → Machine T C) → Recording R B → Pooled S T R B → Type 0
EachRunIsOver {C = C} machine z w = (run : ℕ → Option (ℕ × C)) → IsRun (machine w.stepper).system run → IsOver (machine w.stepper) z w run

-- each way to go on from the point is waited for, or is over and collected
pub data IsHandled {S T C R B : Type 0} (m : Machine T C) (z : Recording R B)
    (w : Pooled S T R B) : List ℕ → ℕ → C → Type 0 where
  waits : {past : List ℕ} {n : ℕ} {c : C} (spot : Spot T R) → Contains w.spots spot
      → Stands w.outline m z w.book spot past n c → IsHandled m z w past n c
  passed : {past : List ℕ} {n : ℕ} {c : C} → IsTrace (shape_of w.outline) (n ∷ past) → slice_get w.stepped n ≡ Some true
      → ((k : ℕ) (d : C) → m.system.goes n c k d → IsHandled m z w (n ∷ past) k d)
      → (m.system.ends n c → z.sums_up w.outline w.book (n ∷ past))
      → ((kind : RunFault) → m.system.fails n c kind → (has_fault (alarm_at w.alarms n) kind ≡ true) × z.sums_up w.outline w.book (n ∷ past)) → IsHandled m z w past n c

-- each start is handled
abbrev pub EachIsHandled : {S T C R B : Type 0} → (S → Machine T C) → Recording R B → Pooled S T R B → Type 0
EachIsHandled {C = C} machine z w = (c : C) → (machine w.stepper).system.starts c → IsHandled (machine w.stepper) z w [] 0 c
