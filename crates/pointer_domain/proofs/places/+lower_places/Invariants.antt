use Rattle.std.proofs.Common.{length}
use Rattle.pointer_domain.proofs.places.+lower_places.Given as goal

abbrev pub decreases-lower_places : goal.decreases-lower_places
decreases-lower_places l = length l.places.now
