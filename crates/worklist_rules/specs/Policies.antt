-- The events that a policy gives.
--   IsMergePoint o policy n   places at the node n may be merged
--   IsChoice o policy spots event   the policy's next event
--   IsPolicyRun .. policy turns old events new   the policy's events lead from the old pool to the new one, which is
--                             empty or has so many steps
use Rattle.std.specs.Prelude.{◌≡◌, ◌≢◌, ℕ, List, [], ◌∷◌, ◌⊎◌, Some, slice_get}
use Rattle.worklist.specs.Least.{IsFirstLeast, IsNextSame}
use Rattle.domain_core.specs.declared.event.Event.{Event}
use Rattle.domain_core.specs.declared.event.Event.TheVariants.{Step, Merge}
use Rattle.domain_core.specs.Orders.{Order}
use Rattle.domain_core.specs.Reducible.{IsEdge}
use Rattle.domain_core.specs.Outlines.{Shape, Holds, shape_of}
use Rattle.domain_core.specs.Machines.{Machine}
use Rattle.domain_core.specs.Recordings.{Recording}
use Rattle.worklist_rules.specs.declared.policy.Policy.{Policy}
use Rattle.worklist_rules.specs.declared.policy.Policy.TheVariants.{None, Exits, Joins}
use Rattle.worklist_rules.specs.Pools.{Spot, Pooled, positions_of}
use Rattle.worklist_rules.specs.Events.{Happens}

-- some edge reaches the node from inside a scope that does not hold it
abbrev pub IsExit : Shape → ℕ → Type 0
IsExit o n = (u t : ℕ) × IsEdge o.edges u n × Holds o t u × (Holds o t n → ⊥)

-- places at the node may be merged
abbrev pub IsMergePoint : Shape → Policy → ℕ → Type 0
IsMergePoint o None n = ⊥
IsMergePoint o Exits n = IsExit o n
IsMergePoint o Joins n = Unit {0}

-- the first place of least position, and the next one of the same position where it stands at a merge point
pub data IsChoice {T R : Type 0} (o : Shape) (policy : Policy) (spots : List (Spot T R)) : Event → Type 0 where
  merges : {i j : ℕ} (spot : Spot T R) → IsFirstLeast (positions_of spots) i → slice_get spots i ≡ Some spot
      → IsMergePoint o policy spot.node
      → IsNextSame (positions_of spots) i j → IsChoice o policy spots (Merge i j)
  steps : {i : ℕ} (spot : Spot T R) → IsFirstLeast (positions_of spots) i → slice_get spots i ≡ Some spot
      → (IsMergePoint o policy spot.node → (j : ℕ) → IsNextSame (positions_of spots) i j → ⊥) → IsChoice o policy spots (Step i)

-- the policy's events, until no place is left or so many places were stepped
abbrev pub IsPolicyRun : {S T C R B : Type 0} → (S → Machine T C) → Order T → Order R → Recording R B → Policy → ℕ
    → Pooled S T R B → List Event → Pooled S T R B → Type 0
IsPolicyRun machine states recorders z policy turns old [] new = (new ≡ old) × ((old.spots ≡ []) ⊎ (old.steps ≡ turns))
IsPolicyRun {S} {T} {R = R} {B = B} machine states recorders z policy turns old (event ∷ events) new =
    (old.steps ≢ turns) × IsChoice (shape_of old.outline) policy old.spots event
    × (mid : Pooled S T R B) × Happens machine states recorders z old event mid × IsPolicyRun machine states recorders z policy turns mid events new
