use Rattle.std.proofs.Common.{◌≡◌, length}
use Rattle.pointer_rules.specs.AbstractValues.{ArePlaces, with_places}
use Rattle.pointer_domain.proofs.places.put_all.Given as goal

abbrev pub invariant-loop-first : goal.invariant-loop-first
invariant-loop-first l = (with_places l.places.items l.rest ≡ with_places l.fn.places.items l.fn.others) × ArePlaces l.places.items × ArePlaces l.rest

abbrev pub decreases-loop-first : goal.decreases-loop-first
decreases-loop-first l = length l.rest
