-- One row more.
use Rattle.std.proofs.Common.{rules, ◌≡◌, ◌<◌, ◌≤◌, ◌++◌, length, subst, sym, ℕ}
use Rattle.ipet_rows.specs.Programs.{row_at}
use Rattle.simplex_rules.specs.Tableaus.{slacks_from, width_of, next_slack}
use Rattle.simplex_tableau.specs.FirstTerms.{first_rows, row_held}
use Rattle.simplex_tableau.proofs.RowStepLemmas.{rows_more}
use Rattle.simplex_tableau.specs.RowStepLaws.{width_more, next_past}
use Rattle.simplex_tableau.proofs.first.first_rows.Goals as goal

pub loop-row-preserved : goal.loop-row-preserved
loop-row-preserved c =
    let p = c.args.rows.now.program in
    let below : c.loop-row.row < length c.args.rows.now.program.rows = search (rules) in
    let next : c.in_ok-slack.slack ≡ next_slack (row_at c.args.rows.now.program.rows c.loop-row.row).equation c.loop-row.slack = search (rules) in
    let made : c.push_row.new.out.items ≡ c.loop-row.out.items ++ row_held (row_at c.args.rows.now.program.rows c.loop-row.row).equation (row_at c.args.rows.now.program.rows c.loop-row.row) c.loop-row.slack = search (rules) in
    record {
      all = rows_more p.rows c.loop-row.row c.loop-row.slack c.in_ok-slack.slack c.loop-row.out.items c.push_row.new.out.items (first_rows p.rows (slacks_from p)) below made next c.loop-row.invariant.all;
      width = width_more p.rows c.loop-row.row c.loop-row.slack c.in_ok-slack.slack (width_of p) below next c.loop-row.invariant.width;
      least = subst (λ (n : ℕ). slacks_from p ≤ n) (sym next) (next_past (row_at p.rows c.loop-row.row).equation (slacks_from p) c.loop-row.slack c.loop-row.invariant.least);
    }
