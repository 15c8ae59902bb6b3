-- A copy of the row stands in the place of the row.
use Rattle.std.proofs.Common.{rules, ◌≡◌, ◌∙◌}
use Rattle.simplex_rules.specs.Lines.{spread}
use Rattle.simplex_tableau.specs.Stepped.{IsExchanged}
use Rattle.simplex_tableau.proofs.Pivots.{opening_is}
use Rattle.simplex_tableau.proofs.tableau.SparseTableau.opened.Goals as goal

pub returns-in-Some : goal.returns-in-Some
returns-in-Some c =
    let made : IsExchanged c.args.row c.args.place (spread c.args.self.width 0 c.in_ok-by.by) c.args.self c.in-Some.out = search (rules) in
    let copy : c.in_ok-by.by ≡ c.line.result.now = search (rules) in
    opening_is c.args.row c.args.place c.held.result.now.terms c.in_ok-by.by c.args.self c.in-Some.out (copy ∙ c.line.ensures) c.held.ensures.line made
