-- The lines of the rows so far.
use Rattle.std.proofs.Common.{◌≡◌}
use Rattle.simplex_rules.specs.OpeningPlaces.{line_place}
use Rattle.simplex_tableau.proofs.opening.line_of.Given as goal

abbrev pub invariant-loop-other : goal.invariant-loop-other
invariant-loop-other l = l.line ≡ line_place l.rows.program.rows l.other
