-- Explorations by two machines that answer alike, whose states go with each other.
--   AreTwins m n states Twin      from states that go with each other, the machines answer with such states
--   IsBeside Twin a b             two places that differ in their states alone, which go with each other
--   beside w stepper spots        the pool with another stepper and other places
use Rattle.std.proofs.Common.{◌≡◌, ℕ, List}
use Rattle.std.specs.List.{AllZip}
use Rattle.domain_core.specs.declared.event.Event.{Event}
use Rattle.domain_core.specs.Orders.{Order}
use Rattle.domain_core.specs.Outlines.{Outlined}
use Rattle.domain_core.specs.Machines.{Machine}
use Rattle.domain_core.specs.Recordings.{Recording}
use Rattle.worklist_rules.specs.declared.policy.Policy.{Policy}
use Rattle.worklist_rules.specs.Pools.{Spot, Pooled}
use Rattle.worklist_rules.specs.Events.{Happens}
use Rattle.worklist_rules.specs.Policies.{steps, IsPolicyRun}

-- the second point is the first with a state that goes with its own
abbrev pub GoesWith : {T : Type 0} → (T → T → Type 0) → ℕ × T → ℕ × T → Type 0
GoesWith {T} Twin a b = (u : T) × Twin a.1 u × (b ≡ (a.0, u))

-- from states that go with each other, the machines answer with such states
pub record AreTwins {T C : Type 0} (m n : Machine T C) (states : Order T) (Twin : T → T → Type 0) : Type 0 where
  pub next : (k : ℕ) (t u : T) → Twin t u → AllZip (GoesWith Twin) (m.next k t) (n.next k u)
  pub faults : (k : ℕ) (t u : T) → Twin t u → m.faults k t ≡ n.faults k u
  pub joined : (t u v w : T) → Twin t u → Twin v w → Twin (states.joined t v) (states.joined u w)

-- the place with another state
abbrev pub with_state : {T R : Type 0} → Spot T R → T → Spot T R
with_state spot t = record { node = spot.node; position = spot.position; state = t; recorder = spot.recorder }

-- two places that differ in their states alone, which go with each other
abbrev pub IsBeside : {T R : Type 0} → (T → T → Type 0) → Spot T R → Spot T R → Type 0
IsBeside {T} Twin a b = (u : T) × Twin a.state u × (b ≡ with_state a u)

-- the pool with another stepper and other places
abbrev pub beside : {S T R B : Type 0} → Pooled S T R B → S → List (Spot T R) → Pooled S T R B
beside w stepper spots = record {
  stepper = stepper;
  outline = w.outline;
  spots = spots;
  book = w.book;
  alarms = w.alarms;
  stepped = w.stepped;
  steps = w.steps;
}

-- ---- pools

module _ {S T C R B : Type 0} (machine : S → Machine T C) (states : Order T) (recorders : Order R) (z : Recording R B) (Twin : T → T → Type 0) (other : S) where
  -- what an event makes of the pool beside
  pub record IsAlso (old new : Pooled S T R B) (spots : List (Spot T R)) (event : Event) : Type 0 where
    pub others : List (Spot T R)
    pub beside_new : AllZip (IsBeside Twin) new.spots others
    pub happens : Happens machine states recorders z (beside old other spots) event (beside new other others)

  -- what a policy run makes of the pool beside
  pub record RunsAlso (policy : Policy) (turns : ℕ) (old new : Pooled S T R B) (spots : List (Spot T R)) (events : List Event) : Type 0 where
    pub others : List (Spot T R)
    pub beside_new : AllZip (IsBeside Twin) new.spots others
    pub run : IsPolicyRun machine states recorders z policy turns (beside old other spots) events (beside new other others)
