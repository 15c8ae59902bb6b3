-- The tableau after the pivots so far.
use Rattle.simplex_tableau.specs.Started.{IsOpenedSo}
use Rattle.simplex_tableau.proofs.opening.started.Given as goal

abbrev pub invariant-loop-i : goal.invariant-loop-i
invariant-loop-i l = IsOpenedSo l.rows.program l.rows.openings l.i l.tableau
