-- Pools of one run alone: one place, exactly where the run is.
--   IsQuiet w             no fault was told
--   HasStepped w nodes    these nodes were stepped, and no other
--   IsSharpAt m z w past n c     the pool has one place, which is exactly at the point
--   IsSharpOver m z w past n c   no place is left, and exactly the run's own numbers and fault were collected
--   IsSharp m z w run     the one or the other, where the run is
use Rattle.std.specs.Prelude.{◌≡◌, ◌≢◌, ℕ, suc, true, List, [], ◌∷◌, ◌⊎◌, length, Option, None, Some, slice_get, Contains}
use Rattle.alf_ops.specs.declared.history.RunFault.{RunFault}
use Rattle.domain_core.specs.FaultSets.{no_faults, with_fault}
use Rattle.domain_core.specs.Outlines.{shape_of}
use Rattle.domain_core.specs.Traces.{IsTrace}
use Rattle.domain_core.specs.Machines.{Machine}
use Rattle.domain_core.specs.Recordings.{Recording}
use Rattle.worklist_rules.specs.Positions.{position_of}
use Rattle.worklist_rules.specs.Pools.{Spot, Pooled, alarm_at}
use Rattle.domain_core.specs.SystemRuns.{trace_to}
use Rattle.worklist_rules.specs.Runs.{AllStepped}

-- no fault was told
abbrev pub IsQuiet : {S T R B : Type 0} → Pooled S T R B → Type 0
IsQuiet w = (k : ℕ) → alarm_at w.alarms k ≡ no_faults

-- these nodes were stepped, and no other
pub record HasStepped {S T R B : Type 0} (w : Pooled S T R B) (nodes : List ℕ) : Type 0 where
  pub all : AllStepped w.stepped nodes
  pub only : (k : ℕ) → slice_get w.stepped k ≡ Some true → Contains nodes k
  pub count : w.steps ≡ length nodes

-- the pool has one place, which is exactly at the point
pub record IsSharpAt {S T C R B : Type 0} (m : Machine T C) (z : Recording R B) (w : Pooled S T R B) (past : List ℕ)
    (n : ℕ) (c : C) : Type 0 where
  pub spot : Spot T R
  pub one : w.spots ≡ spot ∷ []
  pub node : spot.node ≡ n
  pub position : spot.position ≡ position_of (shape_of w.outline) (n ∷ past)
  pub walk : IsTrace (shape_of w.outline) (n ∷ past)
  pub state : m.sharp spot.state c
  pub recorder : z.sharp w.outline spot.recorder w.book (n ∷ past)
  pub quiet : IsQuiet w
  pub stepped : HasStepped w past

-- the run's end was told exactly
abbrev pub EndsSharp : {S T C R B : Type 0} → Machine T C → Pooled S T R B → ℕ → C → Type 0
EndsSharp m w n c =
    (m.system.ends n c × IsQuiet w)
    ⊎ ((kind : RunFault) × m.system.fails n c kind × (alarm_at w.alarms n ≡ with_fault no_faults kind) × ((k : ℕ) → k ≢ n → alarm_at w.alarms k ≡ no_faults))

-- no place is left, and exactly the run's own numbers and fault were collected
pub record IsSharpOver {S T C R B : Type 0} (m : Machine T C) (z : Recording R B) (w : Pooled S T R B) (past : List ℕ)
    (n : ℕ) (c : C) : Type 0 where
  pub none : w.spots ≡ []
  pub walk : IsTrace (shape_of w.outline) (n ∷ past)
  pub book : z.exact w.outline w.book (n ∷ past)
  pub way : EndsSharp m w n c
  pub stepped : HasStepped w (n ∷ past)

-- the one or the other, where the run is
abbrev pub IsSharp : {S T C R B : Type 0} → Machine T C → Recording R B → Pooled S T R B → (ℕ → Option (ℕ × C)) → Type 0
IsSharp {C = C} m z w run =
    ((k n : ℕ) × (c : C) × (run k ≡ Some (n, c)) × IsSharpAt m z w (trace_to run k) n c)
    ⊎ ((k n : ℕ) × (c : C) × (run k ≡ Some (n, c)) × (run (suc k) ≡ None) × IsSharpOver m z w (trace_to run k) n c)
