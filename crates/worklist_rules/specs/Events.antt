-- What an event makes of a pool.
--   book_after, spots_after  the book and the place, if any, that one successor of a place makes
--   spread_book, spread_spots   those that all successors make, in order
--   book_at_faults           the book where the node may fault
--   opened                   the pool at its start
--   stepped_at, merged_at    the pool after a step and after a merge
--   Happens .. old event new the event is allowed, and leads from the old pool to the new one
--   HappenAll                so do events, one after another
--   IsOneOn old new          the new pool explores the same, with at most one step more
use Rattle.std.specs.Prelude.{◌≡◌, ℕ, suc, ◌+◌, ◌<◌, ◌≤◌, true, false, List, [], ◌∷◌, ◌++◌, length, take, drop, remove, Some, slice_get, slice_set, replicate, ◌==◌, if◌then◌else◌}
use Rattle.domain_core.specs.declared.fault_set.FaultSet.{FaultSet}
use Rattle.domain_core.specs.declared.event.Event.{Event}
use Rattle.domain_core.specs.declared.event.Event.TheVariants.{Step, Merge}
use Rattle.domain_core.specs.FaultSets.{no_faults}
use Rattle.domain_core.specs.Orders.{Order}
use Rattle.domain_core.specs.Outlines.{Outlined, shape_of}
use Rattle.domain_core.specs.Machines.{Machine}
use Rattle.domain_core.specs.Recordings.{Recording}
use Rattle.worklist_rules.specs.Positions.{position_of, moved_position}
use Rattle.worklist_rules.specs.Pools.{Spot, Pooled, with_alarm, may_fault}

-- the place to which a place at the node n goes on, by a successor
abbrev pub next_spot : {T R B : Type 0} → Recording R B → Outlined → List ℕ → R → ℕ → B → ℕ × T → Spot T R
next_spot z o position r n b s = record { node = s.0; position = moved_position (shape_of o) n position s.0; state = s.1; recorder = z.gone o r b n s.0 }

-- the book after one successor: at the end of runs the trace is collected
abbrev pub book_after : {T R B : Type 0} → Recording R B → Outlined → R → ℕ → B → ℕ × T → B
book_after z o r n b s = if s.0 == length o.nodes then z.finished o r b n else z.gone_book o r b n s.0

-- the place that one successor makes, if it is not at the end of runs
abbrev pub spots_after : {T R B : Type 0} → Recording R B → Outlined → List ℕ → R → ℕ → B → ℕ × T → List (Spot T R)
spots_after z o position r n b s = if s.0 == length o.nodes then [] else next_spot z o position r n b s ∷ []

-- the book after all successors, in order
abbrev pub spread_book : {T R B : Type 0} → Recording R B → Outlined → R → ℕ → B → List (ℕ × T) → B
spread_book z o r n b [] = b
spread_book z o r n b (s ∷ rest) = spread_book z o r n (book_after z o r n b s) rest

-- the places that the successors make, in order
abbrev pub spread_spots : {T R B : Type 0} → Recording R B → Outlined → List ℕ → R → ℕ → B → List (ℕ × T)
    → List (Spot T R)
spread_spots z o position r n b [] = []
spread_spots z o position r n b (s ∷ rest) = spots_after z o position r n b s ++ spread_spots z o position r n (book_after z o r n b s) rest

-- the book at a step whose node may fault: the trace is collected
abbrev pub book_at_faults : {R B : Type 0} → Recording R B → Outlined → R → ℕ → B → FaultSet → B
book_at_faults z o r n b faults = if may_fault faults then z.finished o r b n else b

-- the pool at its start: one place at node 0
abbrev pub opened : {S T C R B : Type 0} → (S → Machine T C) → Recording R B → S → Outlined → Pooled S T R B
opened machine z stepper o =
    record {
      stepper = stepper;
      outline = o;
      spots = record { node = 0; position = position_of (shape_of o) (0 ∷ []); state = (machine stepper).first; recorder = z.first o } ∷ [];
      book = z.first_book o;
      alarms = replicate (length o.nodes) no_faults;
      stepped = replicate (length o.nodes) false;
      steps = 0;
    }

-- the pool whose place i, the spot, is replaced by its successors
abbrev pub stepped_at : {S T C R B : Type 0} → (S → Machine T C) → Recording R B → Pooled S T R B → ℕ → Spot T R
    → Pooled S T R B
stepped_at machine z w i spot =
    let faults = (machine w.stepper).faults spot.node spot.state in
    let next = (machine w.stepper).next spot.node spot.state in
    let b = book_at_faults z w.outline spot.recorder spot.node w.book faults in
    record {
      stepper = w.stepper;
      outline = w.outline;
      spots = take i w.spots ++ (spread_spots z w.outline spot.position spot.recorder spot.node b next ++ drop (suc i) w.spots);
      book = spread_book z w.outline spot.recorder spot.node b next;
      alarms = with_alarm w.alarms spot.node faults;
      stepped = slice_set w.stepped spot.node true;
      steps = w.steps + 1;
    }

-- the place that is the join of two of one position
abbrev pub met : {T R : Type 0} → Order T → Order R → Spot T R → Spot T R → Spot T R
met states recorders a b = record { node = a.node; position = a.position; state = states.joined a.state b.state; recorder = recorders.joined a.recorder b.recorder }

-- the pool whose place i is the join of itself and place j, which is gone
abbrev pub merged_at : {S T R B : Type 0} → Order T → Order R → Pooled S T R B → ℕ → ℕ → Spot T R → Spot T R
    → Pooled S T R B
merged_at states recorders w i j a b = record w { spots = remove (slice_set w.spots i (met states recorders a b)) j }

-- the event is allowed, and leads from the old pool to the new one
abbrev pub Happens : {S T C R B : Type 0} → (S → Machine T C) → Order T → Order R → Recording R B → Pooled S T R B
    → Event → Pooled S T R B → Type 0
Happens {T = T} {R = R} machine states recorders z old (Step i) new = (spot : Spot T R) × (slice_get old.spots i ≡ Some spot) × (new ≡ stepped_at machine z old i spot)
Happens {T = T} {R = R} machine states recorders z old (Merge i j) new =
    (a : Spot T R) × (b : Spot T R) × (i < j) × (slice_get old.spots i ≡ Some a) × (slice_get old.spots j ≡ Some b) × (a.position ≡ b.position) × (new ≡ merged_at states recorders old i j a b)

-- the events lead, one after another, from the old pool to the new one
abbrev pub HappenAll : {S T C R B : Type 0} → (S → Machine T C) → Order T → Order R → Recording R B → Pooled S T R B
    → List Event → Pooled S T R B → Type 0
HappenAll machine states recorders z old [] new = new ≡ old
HappenAll {S} {T} {R = R} {B = B} machine states recorders z old (event ∷ events) new =
    (mid : Pooled S T R B) × Happens machine states recorders z old event mid × HappenAll machine states recorders z mid events new

-- the new pool explores the same, with at most one step more
pub record IsOneOn {S T R B : Type 0} (old new : Pooled S T R B) : Type 0 where
  pub stepper : new.stepper ≡ old.stepper
  pub outline : new.outline ≡ old.outline
  pub steps : new.steps ≤ old.steps + 1
