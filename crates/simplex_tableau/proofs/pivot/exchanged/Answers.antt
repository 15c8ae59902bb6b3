-- The rows can be freed, and what is made is what the definitions say.
use Rattle.std.proofs.Common.{rules}
use Rattle.simplex_tableau.specs.Stepped.{IsStepped, IsReplaced}
use Rattle.simplex_tableau.proofs.Pivots.{rows_freeable, exchanged_is}
use Rattle.simplex_tableau.proofs.pivot.exchanged.Goals as goal

pub exchanged_rows-requires-clause-freeable : goal.exchanged_rows-requires-clause-freeable
exchanged_rows-requires-clause-freeable c =
    rows_freeable c.tableau.inside.width c.tableau.inside.rows.items c.tableau.inside.objective c.args.tableau c.args.row c.args.by
    c.tableau.view_is c.tableau.invariant.0 c.requires.own c.requires.apart

pub returns : goal.returns
returns c =
    let cost : IsStepped c.args.place c.args.by c.of-cost.result c.free_row.new.held = search (rules) in
    let rest : IsReplaced c.args.place c.args.by c.args.row c.tableau.inside.rows.items c.in-Some.rows.items = search (rules) in
    exchanged_is c.tableau.inside.width c.args.place c.args.row c.args.by c.tableau.inside.rows.items c.in-Some.rows.items c.tableau.inside.objective c.args.tableau
    c.of-cost.result c.free_row.new.held c.tableau.view_is c.tableau.invariant.0 c.tableau.invariant.1 c.requires.kept c.requires.row c.of-cost.ensures cost rest
    c.into_line.result c.into_line.ensures
