-- What was appended, and then the lines of the rows left, is all; the rows left end at the width.
use Rattle.std.proofs.Common.{◌≡◌, ◌++◌, ◌≤◌, drop}
use Rattle.simplex_rules.specs.Tableaus.{width_of, width_from, slacks_from}
use Rattle.simplex_tableau.specs.FirstTerms.{first_rows}
use Rattle.simplex_tableau.proofs.first.first_rows.Given as goal

abbrev pub invariant-loop-row : goal.invariant-loop-row
invariant-loop-row l = record {
  all : l.out.items ++ first_rows (drop l.row l.rows.program.rows) l.slack ≡ first_rows l.rows.program.rows (slacks_from l.rows.program);
  width : width_from (drop l.row l.rows.program.rows) l.slack ≡ width_of l.rows.program;
  least : slacks_from l.rows.program ≤ l.slack;
}
