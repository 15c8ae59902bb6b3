-- What every pool keeps.
--   IsPlaced o m z steps spot   the place meets the conditions of the calls, after so many steps
--   IsKept machine z w          every place does, and each run is waited for or is over
use Rattle.std.specs.Prelude.{◌≡◌, ℕ, ◌+◌, ◌<◌, ◌≤◌, length, Contains}
use Rattle.domain_core.specs.Outlines.{Outlined, shape_of, scopes_around}
use Rattle.domain_core.specs.Machines.{Machine, IsAlong}
use Rattle.domain_core.specs.Recordings.{Recording, IsSuited}
use Rattle.worklist_rules.specs.Positions.{IsPosition, turn_in}
use Rattle.worklist_rules.specs.Pools.{Spot, Pooled}
use Rattle.worklist_rules.specs.Runs.{EachIsHandled}

-- a place meets the conditions of the calls, after so many steps
pub record IsPlaced {T C R B : Type 0} (o : Outlined) (m : Machine T C) (z : Recording R B) (steps : ℕ)
    (spot : Spot T R) : Type 0 where
  pub in_range : spot.node < length o.nodes
  pub fits : m.fits spot.node spot.state
  pub is_of : z.is_of o spot.recorder
  pub long : z.length_of spot.recorder ≤ steps + 1
  -- the position is one of the node, and no number in it is too great
  pub position_is : IsPosition (shape_of o) spot.node spot.position
  pub low : (t : ℕ) → turn_in (scopes_around (shape_of o) spot.node) spot.position t ≤ steps + 1

pub record IsKept {S T C R B : Type 0} (machine : S → Machine T C) (z : Recording R B)
    (w : Pooled S T R B) : Type 0 where
  pub suited : IsSuited z w.outline
  pub stepper : (machine w.stepper).kept
  pub along : IsAlong T C (shape_of w.outline) (machine w.stepper)
  pub placed : (spot : Spot T R) → Contains w.spots spot → IsPlaced w.outline (machine w.stepper) z w.steps spot
  pub book : z.book_is_of w.outline w.book
  pub flags : length w.stepped ≡ length w.outline.nodes
  pub told : length w.alarms ≡ length w.outline.nodes
  pub handled : EachIsHandled machine z w
