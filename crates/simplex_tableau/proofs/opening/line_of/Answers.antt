-- One row more.
use Rattle.std.proofs.Common.{rules, ◌≡◌, ◌<◌, length, arith, ◌∙◌}
use Rattle.ipet_rows.specs.Programs.{row_at}
use Rattle.simplex_rules.specs.OpeningPlaces.{line_place, next_line}
use Rattle.simplex_tableau.proofs.OpeningSteps.{line_more}
use Rattle.simplex_tableau.proofs.opening.line_of.Goals as goal

pub loop-other-preserved : goal.loop-other-preserved
loop-other-preserved c =
    let rs = c.args.rows.now.program.rows in
    let below : c.loop-other.other < length c.args.rows.now.program.rows = omega (arith, c.loop-other-test.true, c.requires) in
    let is : c.line_behind-line.result ≡ next_line (row_at c.args.rows.now.program.rows c.loop-other.other).equation (line_place c.args.rows.now.program.rows c.loop-other.other) = search (rules) in
    line_more rs c.loop-other.other c.line_behind-line.result below is
