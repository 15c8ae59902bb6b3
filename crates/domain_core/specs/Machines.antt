-- Abstract machines over the points of a concrete system. A point is a node and a value of the system.
--   System C            where runs start, their next points, their ends and their faults
--   Machine T C         what a stepper names: what it keeps, its system, what its states cover, and what its calls answer
--   IsMachine T C order m   the laws of a stepper
--   IsAlong C o ..      each step, abstract or concrete, lies along an edge of the outline
use Rattle.std.specs.Prelude.{◌≡◌, ◌≢◌, ◌<◌, ℕ, List, [], ◌∷◌, Contains, true, length}
use Rattle.alf_ops.specs.declared.history.RunFault.{RunFault}
use Rattle.domain_core.specs.declared.fault_set.FaultSet.{FaultSet}
use Rattle.domain_core.specs.FaultSets.{has_fault, no_faults, with_fault}
use Rattle.domain_core.specs.Orders.{Order}
use Rattle.domain_core.specs.Reducible.{IsEdge}
use Rattle.domain_core.specs.Outlines.{Shape}

pub record System (C : Type 0) : Type 1 where
  -- a run may start at node 0 with this value
  pub starts : C → Type 0
  -- from the node with the value a run goes on to that node with that value
  pub goes : ℕ → C → ℕ → C → Type 0
  -- it ends there
  pub ends : ℕ → C → Type 0
  -- it faults there
  pub fails : ℕ → C → RunFault → Type 0

pub record Machine (T C : Type 0) : Type 1 where
  -- what the stepper keeps: the laws speak of such steppers alone
  pub kept : Type 0
  pub system : System C
  -- the state stands for the value, and for this one alone
  pub covers : T → C → Type 0
  pub sharp : T → C → Type 0
  -- the state is one for this node
  pub fits : ℕ → T → Type 0
  -- what the calls answer where memory is there
  pub first : T
  pub next : ℕ → T → List (ℕ × T)
  pub faults : ℕ → T → FaultSet
  -- the number that stands for the end of runs
  pub exit : ℕ

pub record IsMachine (T C : Type 0) (order : Order T) (m : Machine T C) : Type 0 where
  -- states fit their nodes, and those of one node are alike
  pub first_fits : m.fits 0 m.first
  pub next_fits : (n k : ℕ) (t u : T) → m.fits n t → Contains (m.next n t) (k, u) → k ≢ m.exit → m.fits k u
  pub joined_fits : (n : ℕ) (t u : T) → m.fits n t → m.fits n u → m.fits n (order.joined t u)
  pub fits_alike : (n : ℕ) (t u : T) → m.fits n t → m.fits n u → order.alike t u
  -- what is above covers as much
  pub above_covers : (t u : T) (c : C) → order.under t u → m.covers t c → m.covers u c
  -- each start, next point, end and fault is covered
  pub first_covers : (c : C) → m.system.starts c → m.covers m.first c
  pub next_covers : (n k : ℕ) (t : T) (c d : C) → m.fits n t → m.covers t c → m.system.goes n c k d
      → (u : T) × Contains (m.next n t) (k, u) × m.covers u d
  pub end_follows : (n : ℕ) (t : T) (c : C) → m.fits n t → m.covers t c → m.system.ends n c
      → (u : T) × Contains (m.next n t) (m.exit, u)
  pub fault_told : (n : ℕ) (t : T) (c : C) (kind : RunFault) → m.fits n t → m.covers t c → m.system.fails n c kind
      → has_fault (m.faults n t) kind ≡ true
  -- a sharp state has exactly the concrete successor, or no successor and exactly the concrete fault
  pub sharp_covers : (t : T) (c : C) → m.sharp t c → m.covers t c
  pub first_sharp : (c : C) → m.system.starts c → ((d : C) → m.system.starts d → d ≡ c) → m.sharp m.first c
  pub next_sharp : (n k : ℕ) (t : T) (c d : C) → m.fits n t → m.sharp t c → m.system.goes n c k d
      → (u : T) × (m.next n t ≡ (k, u) ∷ []) × (m.faults n t ≡ no_faults) × m.sharp u d
  pub end_sharp : (n : ℕ) (t : T) (c : C) → m.fits n t → m.sharp t c → m.system.ends n c
      → (u : T) × (m.next n t ≡ (m.exit, u) ∷ []) × (m.faults n t ≡ no_faults)
  pub fault_sharp : (n : ℕ) (t : T) (c : C) (kind : RunFault) → m.fits n t → m.sharp t c → m.system.fails n c kind
      → (m.next n t ≡ []) × (m.faults n t ≡ with_fault no_faults kind)

-- each step, abstract or concrete, lies along an edge of the outline, to its end of runs too
pub record IsAlong (T C : Type 0) (o : Shape) (m : Machine T C) : Type 0 where
  pub exit_is : m.exit ≡ length o.own
  pub next_along : (n k : ℕ) (t u : T) → m.fits n t → Contains (m.next n t) (k, u) → IsEdge o.edges n k
  pub goes_along : (n k : ℕ) (c d : C) → m.system.goes n c k d → IsEdge o.edges n k × (k < length o.own)
  pub ends_along : (n : ℕ) (c : C) → m.system.ends n c → IsEdge o.edges n (length o.own)
