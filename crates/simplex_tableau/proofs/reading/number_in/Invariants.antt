-- What is left has the number that all have.
use Rattle.std.proofs.Common.{◌≡◌, length}
use Rattle.ipet_rows.specs.Sums.{coefficient, IsAscending}
use Rattle.simplex_tableau.proofs.reading.number_in.Given as goal

abbrev pub invariant-loop-term : goal.invariant-loop-term
invariant-loop-term l = record {
  ascending : IsAscending l.rest;
  same : coefficient l.rest l.place ≡ coefficient l.terms l.place;
}

abbrev pub decreases-loop-term : goal.decreases-loop-term
decreases-loop-term l = length l.rest
