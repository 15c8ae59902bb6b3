-- A row that has the place is the line that freeing it gives.
use Rattle.std.proofs.Common.{rules, subst}
use Rattle.simplex_tableau.specs.Shown.{IsFreed}
use Rattle.simplex_tableau.specs.Sparse.{HeldTerms}
use Rattle.simplex_tableau.specs.Stepped.{IsStepped}
use Rattle.simplex_tableau.proofs.FreedRows.{row_freed}
use Rattle.simplex_tableau.proofs.row.free_row.Goals as goal

pub returns-in-Some : goal.returns-in-Some
returns-in-Some c =
    let freed : IsFreed c.args.place c.args.by.now c.held.inside.line c.in-Some.line = search (rules) in
    subst (λ (x : HeldTerms). IsStepped c.args.place c.args.by.now x (record { basic = c.held.inside.basic; terms = c.in-Some.line })) c.held.view_is
    (row_freed c.args.place c.held.inside.basic c.args.by.now c.held.inside.line c.in-Some.line freed)
