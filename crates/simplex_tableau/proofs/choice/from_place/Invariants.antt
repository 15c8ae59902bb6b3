-- What is left gives what all give.
use Rattle.std.proofs.Common.{◌≡◌, length}
use Rattle.simplex_tableau.specs.Choosing.{dropped}
use Rattle.simplex_tableau.proofs.choice.from_place.Given as goal

abbrev pub invariant-loop-term : goal.invariant-loop-term
invariant-loop-term l = dropped l.place l.rest ≡ dropped l.place l.terms

abbrev pub decreases-loop-term : goal.decreases-loop-term
decreases-loop-term l = length l.rest
