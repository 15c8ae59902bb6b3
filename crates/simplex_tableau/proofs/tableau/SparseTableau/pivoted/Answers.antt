-- The row, turned, keeps its width and its divisor.
use Rattle.std.proofs.Common.{rules, ℕ, ℤ, List, sym, subst}
use Rattle.simplex_tableau.specs.Shown.{IsTurned}
use Rattle.simplex_tableau.specs.Sparse.{IsKept}
use Rattle.simplex_tableau.proofs.Pivots.{turned_kept}
use Rattle.simplex_tableau.proofs.tableau.SparseTableau.pivoted.Goals as goal

pub exchanged-requires-clause-kept : goal.exchanged-requires-clause-kept
exchanged-requires-clause-kept c =
    let turned : IsTurned c.line.result.now c.in-Some.by = search (rules) in
    turned_kept c.args.self.width c.line.result.now c.in-Some.by turned
    (subst (λ (ts : List (ℕ × ℤ)). IsKept c.args.self.width ts) (sym c.line.ensures) c.held.ensures.kept)
