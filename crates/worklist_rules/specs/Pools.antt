-- What contracts see of a pool.
--   Spot T R          a place: its node, its position, its state and its recorder
--   Pooled S T R B    a pool: what it explores, its places, and what was collected
--   positions_of spots  the positions of places
--   alarm_at alarms n, with_alarm alarms n faults   the faults told at a node, and what one step adds
--   may_fault faults  some fault is in the set
use Rattle.std.specs.Prelude.{ℕ, Bool, ◌||◌, List, map, slice_set, slice_index_or}
use Rattle.domain_core.specs.declared.fault_set.FaultSet.{FaultSet}
use Rattle.domain_core.specs.FaultSets.{no_faults, either}
use Rattle.domain_core.specs.Outlines.{Outlined}

-- a place of a pool
pub record Spot (T R : Type 0) : Type 0 where
  pub node : ℕ
  pub position : List ℕ
  pub state : T
  pub recorder : R

-- a pool: what it explores, its places, what was collected of runs, and how many places were stepped
pub record Pooled (S T R B : Type 0) : Type 0 where
  pub stepper : S
  pub outline : Outlined
  pub spots : List (Spot T R)
  pub book : B
  -- for each node the faults that steps told there, and whether it was stepped
  pub alarms : List FaultSet
  pub stepped : List Bool
  pub steps : ℕ

abbrev pub positions_of : {T R : Type 0} → List (Spot T R) → List (List ℕ)
positions_of spots = map (λ spot. spot.position) spots

-- the faults told at a node
abbrev pub alarm_at : List FaultSet → ℕ → FaultSet
alarm_at alarms n = slice_index_or alarms n no_faults

-- and with those of one step more
abbrev pub with_alarm : List FaultSet → ℕ → FaultSet → List FaultSet
with_alarm alarms n faults = slice_set alarms n (either (alarm_at alarms n) faults)

-- some fault is in the set
abbrev pub may_fault : FaultSet → Bool
may_fault set = set.divide || (set.uninit || (set.mixed || (set.bounds || (set.dead || (set.kind || set.pointers)))))
