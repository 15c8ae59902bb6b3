-- One row more.
use Rattle.std.proofs.Common.{rules, ◌≡◌, ◌<◌, length}
use Rattle.ipet_rows.specs.Programs.{row_at}
use Rattle.simplex_rules.specs.Tableaus.{width_of, next_slack}
use Rattle.simplex_tableau.specs.RowStepLaws.{width_more}
use Rattle.simplex_tableau.proofs.places.width.Goals as goal

pub loop-row-preserved : goal.loop-row-preserved
loop-row-preserved c =
    let below : c.loop-row.row < length c.args.rows.now.program.rows = search (rules) in
    let next : c.in-Some-next_place.next ≡ next_slack (row_at c.args.rows.now.program.rows c.loop-row.row).equation c.loop-row.slack = search (rules) in
    width_more c.args.rows.now.program.rows c.loop-row.row c.loop-row.slack c.in-Some-next_place.next (width_of c.args.rows.now.program) below next c.loop-row.invariant
