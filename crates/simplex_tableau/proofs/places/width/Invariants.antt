-- The rows left end at the width.
use Rattle.std.proofs.Common.{◌≡◌, drop}
use Rattle.simplex_rules.specs.Tableaus.{width_of, width_from}
use Rattle.simplex_tableau.proofs.places.width.Given as goal

abbrev pub invariant-loop-row : goal.invariant-loop-row
invariant-loop-row l = width_from (drop l.row l.rows.program.rows) l.slack ≡ width_of l.rows.program
