-- The best of the rows so far.
use Rattle.std.proofs.Common.{◌≡◌, ◌<◌, length, IfSome}
use Rattle.simplex_rules.specs.PivotRule.{leaving_of}
use Rattle.simplex_tableau.proofs.tableau.SparseTableau.leaving.Given as goal

abbrev pub invariant-loop-row : goal.invariant-loop-row
invariant-loop-row l = record {
  value : l.best ≡ leaving_of l.self.tableau l.row;
  below : IfSome l.best (λ k. k < length l.self.tableau.rows);
}
