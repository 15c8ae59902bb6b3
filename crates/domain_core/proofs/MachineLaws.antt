-- What follows from the laws of a stepper.
--   joined_left, joined_right   a join of two states of one node covers what either covers
use Rattle.std.proofs.Common.{ℕ}
use Rattle.domain_core.specs.Orders.{Order, IsOrder}
use Rattle.domain_core.specs.Machines.{Machine, IsMachine}

module _ {T C : Type 0} (order : Order T) (ordered : IsOrder T order) (m : Machine T C) (laws : IsMachine T C order m) where
  -- a join of two states of one node covers what either covers
  pub joined_left : (n : ℕ) (t u : T) (c : C) → m.fits n t → m.fits n u → m.covers t c → m.covers (order.joined t u) c
  joined_left n t u c of_t of_u there = laws.above_covers t (order.joined t u) c (ordered.left t u (laws.fits_alike n t u of_t of_u)) there

  pub joined_right : (n : ℕ) (t u : T) (c : C) → m.fits n t → m.fits n u → m.covers u c → m.covers (order.joined t u) c
  joined_right n t u c of_t of_u there = laws.above_covers u (order.joined t u) c (ordered.right t u (laws.fits_alike n t u of_t of_u)) there
