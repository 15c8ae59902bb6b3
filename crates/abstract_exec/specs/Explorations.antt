-- What the calls of a pool take and answer.
--   IsPool machine z w    what every pool keeps, and how many places it has at most
--   IsLater turns old new the new pool explores the same, and has at most so many steps
--   IsLeftIn w scope      places are left, and the first one stands in the scope
--   IsEnded w events explored   this tells how an exploration by these events ended
--   IsExplored .. policy turns old new explored   the policy's run of so many turns led from the old pool to the new
--                         one, and this tells how it ended
use Rattle.std.specs.Prelude.{◌≡◌, ◌<◌, ◌≤◌, ◌^◌, ℕ, List, [], length, slice_index, slice_get, Some}
use Rattle.domain_core.specs.declared.event.Event.{Event}
use Rattle.domain_core.specs.Orders.{Order}
use Rattle.domain_core.specs.Outlines.{shape_of}
use Rattle.domain_core.specs.Machines.{Machine}
use Rattle.domain_core.specs.Recordings.{Recording}
use Rattle.worklist_rules.specs.declared.policy.Policy.{Policy}
use Rattle.worklist_rules.specs.Pools.{Spot, Pooled}
use Rattle.worklist_rules.specs.Policies.{IsPolicyRun}
use Rattle.worklist_rules.specs.Kept.{IsKept}
use Rattle.abstract_exec.specs.declared.explored.Explored.{Explored}
use Rattle.abstract_exec.specs.declared.explored.Explored.TheVariants.{Closed, Left}

-- what every pool keeps, and how many places it has at most
pub record IsPool {S T C R B : Type 0} (machine : S → Machine T C) (z : Recording R B)
    (w : Pooled S T R B) : Type 0 where
  pub kept : IsKept machine z w
  pub few : length w.spots < 2 ^ 32

-- the new pool explores the same, and has at most so many steps
pub record IsLater {S T R B : Type 0} (turns : ℕ) (old new : Pooled S T R B) : Type 0 where
  pub stepper : new.stepper ≡ old.stepper
  pub outline : new.outline ≡ old.outline
  pub steps : new.steps ≤ turns

-- places are left, and the first one stands in the scope
abbrev pub IsLeftIn : {S T R B : Type 0} → Pooled S T R B → ℕ → Type 0
IsLeftIn {T = T} {R = R} w scope = (spot : Spot T R) × (slice_get w.spots 0 ≡ Some spot) × (scope ≡ slice_index (shape_of w.outline).own spot.node)

-- this tells how an exploration by these events ended
abbrev pub IsEnded : {S T R B : Type 0} → Pooled S T R B → List Event → Explored → Type 0
IsEnded w events (Closed told) = (told.items ≡ events) × (w.spots ≡ [])
IsEnded w events (Left scope) = IsLeftIn w scope

-- the policy's run led from the old pool to the new one, and this tells how it ended
abbrev pub IsExplored : {S T C R B : Type 0} → (S → Machine T C) → Order T → Order R → Recording R B → Policy → ℕ
    → Pooled S T R B → Pooled S T R B → Explored → Type 0
IsExplored machine states recorders z policy turns old new (Closed events) = IsPolicyRun machine states recorders z policy turns old events.items new × (new.spots ≡ [])
IsExplored machine states recorders z policy turns old new (Left scope) = (events : List Event) × IsPolicyRun machine states recorders z policy turns old events new × IsLeftIn new scope
