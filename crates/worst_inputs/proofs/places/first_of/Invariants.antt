use Rattle.std.proofs.Common.{◌≢◌, All, take}
use Rattle.worst_inputs.proofs.places.first_of.Given as goal

abbrev pub invariant-loop-place : goal.invariant-loop-place
invariant-loop-place l = All (λ pair. pair.1 ≢ l.worst) (take l.place l.boxes)
