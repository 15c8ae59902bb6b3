-- One row more.
use Rattle.std.proofs.Common.{rules, ◌≡◌, ◌<◌, ◌≤◌, ◌++◌, ◌∷◌, [], length, arith, ℕ, sym, subst, ◌∙◌, ap, Bool, ◌+◌}
use Rattle.ipet_rows.specs.Programs.{row_at}
use Rattle.simplex_rules.specs.Tableaus.{slacks_from, width_of, next_slack}
use Rattle.simplex_tableau.specs.RowStepLaws.{width_more, next_past}
use Rattle.path_lp.specs.Handing.{multipliers_by, multiplier_by}
use Rattle.path_lp.proofs.HandingLaws.{rest_rises, rest_same, rest_above, room, same_behind, multiplier_there, multipliers_more}
use Rattle.path_lp.proofs.handing.multipliers.Goals as goal

pub multiplier-requires-clause-ascending : goal.multiplier-requires-clause-ascending
multiplier-requires-clause-ascending c = rest_rises c.loop-row.slack c.loop-row.rest.now c.from_place-rest.result.now c.from_place-rest.ensures c.loop-row.invariant.rises

pub multiplier-requires-clause-first : goal.multiplier-requires-clause-first
multiplier-requires-clause-first c =
    rest_above c.loop-row.slack c.loop-row.rest.now c.from_place-rest.result.now c.args.objective.now c.from_place-rest.ensures c.loop-row.invariant.same c.loop-row.invariant.least c.requires.rising
    c.loop-row.slack (omega arith)

pub multiplier-requires-clause-second : goal.multiplier-requires-clause-second
multiplier-requires-clause-second c =
    rest_above c.loop-row.slack c.loop-row.rest.now c.from_place-rest.result.now c.args.objective.now c.from_place-rest.ensures c.loop-row.invariant.same c.loop-row.invariant.least c.requires.rising
    (c.loop-row.slack + 1) (omega arith)

pub multiplier-requires-clause-room : goal.multiplier-requires-clause-room
multiplier-requires-clause-room c =
    let below : c.loop-row.row < length c.args.rows.now.program.rows = search (rules) in
    omega (arith, c.requires.room, room c.args.rows.now.program c.loop-row.row c.loop-row.slack c.equation-equation.result below c.equation-equation.ensures c.loop-row.invariant.width)

pub slack_behind-slack-requires : goal.slack_behind-slack-requires
slack_behind-slack-requires c =
    let below : c.loop-row.row < length c.args.rows.now.program.rows = search (rules) in
    omega (arith, c.requires.room, room c.args.rows.now.program c.loop-row.row c.loop-row.slack c.equation-equation.result below c.equation-equation.ensures c.loop-row.invariant.width)

pub loop-row-preserved : goal.loop-row-preserved
loop-row-preserved c =
    let p = c.args.rows.now.program in
    let k = c.loop-row.row in
    let s = c.loop-row.slack in
    let b = (row_at p.rows k).equation in
    let below : c.loop-row.row < length c.args.rows.now.program.rows = search (rules) in
    let is_b : c.equation-equation.result ≡ (row_at c.args.rows.now.program.rows c.loop-row.row).equation = c.equation-equation.ensures in
    let next : c.slack_behind-slack.result ≡ next_slack (row_at c.args.rows.now.program.rows c.loop-row.row).equation c.loop-row.slack =
    c.slack_behind-slack.ensures ∙ ap (λ (x : Bool). next_slack x c.loop-row.slack) is_b in
    let made : c.push.new.self.items ≡ c.loop-row.out.items ++ (c.multiplier.result ∷ []) = search (rules) in
    let at_rest : c.multiplier.result ≡ multiplier_by (row_at c.args.rows.now.program.rows c.loop-row.row).equation c.loop-row.slack c.from_place-rest.result.now =
    c.multiplier.ensures ∙ ap (λ (x : Bool). multiplier_by x c.loop-row.slack c.from_place-rest.result.now) is_b in
    let same = rest_same s c.loop-row.rest.now c.from_place-rest.result.now c.args.objective.now c.from_place-rest.ensures c.loop-row.invariant.same in
    record {
      all = multipliers_more p.rows k s c.slack_behind-slack.result c.args.objective.now c.loop-row.out.items c.push.new.self.items (multipliers_by p.rows (slacks_from p) c.args.objective.now) c.multiplier.result
          below made (at_rest ∙ multiplier_there b s c.from_place-rest.result.now c.args.objective.now same) next c.loop-row.invariant.all;
      width = width_more p.rows k s c.slack_behind-slack.result (width_of p) below next c.loop-row.invariant.width;
      least = subst (λ (n : ℕ). 2 ≤ n) (sym next) (next_past b 2 s c.loop-row.invariant.least);
      rises = rest_rises s c.loop-row.rest.now c.from_place-rest.result.now c.from_place-rest.ensures c.loop-row.invariant.rises;
      same = same_behind b s c.slack_behind-slack.result c.from_place-rest.result.now c.args.objective.now next same;
    }
