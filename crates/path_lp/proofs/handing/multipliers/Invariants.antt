-- What was appended, and then the multipliers of the rows left, is all.
use Rattle.std.proofs.Common.{◌≡◌, ◌++◌, ◌≤◌, ℕ, drop}
use Rattle.ipet_rows.specs.Sums.{coefficient, IsAscending}
use Rattle.simplex_rules.specs.Tableaus.{width_of, width_from, slacks_from}
use Rattle.path_lp.specs.Handing.{multipliers_by}
use Rattle.path_lp.proofs.handing.multipliers.Given as goal

abbrev pub invariant-loop-row : goal.invariant-loop-row
invariant-loop-row l = record {
  all : l.out.items ++ multipliers_by (drop l.row l.rows.program.rows) l.slack l.objective ≡ multipliers_by l.rows.program.rows (slacks_from l.rows.program) l.objective;
  width : width_from (drop l.row l.rows.program.rows) l.slack ≡ width_of l.rows.program;
  least : 2 ≤ l.slack;
  rises : IsAscending l.rest;
  same : (j : ℕ) → l.slack ≤ j → coefficient l.rest j ≡ coefficient l.objective j;
}
