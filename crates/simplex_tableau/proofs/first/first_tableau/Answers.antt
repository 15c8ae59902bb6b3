-- The lines are kept, each within the width.
use Rattle.std.proofs.Common.{rules, ◌≡◌}
use Rattle.simplex_rules.specs.Tableaus.{width_of, slacks_from}
use Rattle.simplex_tableau.specs.FirstTerms.{first_rows, first_costs}
use Rattle.simplex_tableau.proofs.FirstLaws.{first_kept, costs_kept}
use Rattle.simplex_tableau.proofs.first.first_tableau.Goals as goal

pub of-requires-clause-rows : goal.of-requires-clause-rows
of-requires-clause-rows c =
    let p = c.args.rows.now.program in
    let width : c.in-Some-width.places ≡ width_of c.args.rows.now.program = search (rules) in
    let lines : c.in_ok-lines.lines.items ≡ first_rows c.args.rows.now.program.rows (slacks_from c.args.rows.now.program) = search (rules) in
    first_kept c.in-Some-width.places p c.in_ok-lines.lines.items c.kept.ensures.within width lines

pub of-requires-clause-objective : goal.of-requires-clause-objective
of-requires-clause-objective c =
    let p = c.args.rows.now.program in
    let width : c.in-Some-width.places ≡ width_of c.args.rows.now.program = search (rules) in
    let costs : c.in_ok-costs.costs ≡ first_costs c.args.rows.now.program.costs = search (rules) in
    costs_kept c.in-Some-width.places p c.in_ok-costs.costs width costs
