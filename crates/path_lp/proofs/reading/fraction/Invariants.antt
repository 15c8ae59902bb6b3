-- The rows left give what all rows give.
use Rattle.std.proofs.Common.{◌≡◌, drop}
use Rattle.path_lp.specs.Fractions.{fraction_of}
use Rattle.path_lp.proofs.reading.fraction.Given as goal

abbrev pub invariant-loop-row : goal.invariant-loop-row
invariant-loop-row l = fraction_of (drop l.row l.tableau.tableau.rows) l.place ≡ fraction_of l.tableau.tableau.rows l.place
