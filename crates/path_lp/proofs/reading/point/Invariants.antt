-- What was appended, and then the fractions of the columns left, is all.
use Rattle.std.proofs.Common.{◌≡◌, ◌++◌, ◌+◌, ◌-◌, length}
use Rattle.path_lp.specs.Fractions.{fractions}
use Rattle.path_lp.proofs.reading.point.Given as goal

abbrev pub invariant-loop-column : goal.invariant-loop-column
invariant-loop-column l =
    l.out.items ++ fractions l.tableau.tableau.rows (length l.rows.program.costs - l.column) (l.column + 2) ≡ fractions l.tableau.tableau.rows (length l.rows.program.costs) 2
