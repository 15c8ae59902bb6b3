-- The tableau after the pivot stands, and what it hands out is tested.
use Rattle.std.proofs.Common.{rules, ◌≡◌, false}
use Rattle.ipet_rows.specs.Verdicts.{verdict}
use Rattle.simplex_rules.specs.PivotRule.{is_wide}
use Rattle.simplex_tableau.specs.Stepped.{IsPivoted}
use Rattle.path_lp.specs.Handing.{IsHanded}
use Rattle.path_lp.proofs.StepLaws.{more_stands, handed_scale, next_is}
use Rattle.path_lp.proofs.stepping.pivot_on.Goals as goal

pub handed-requires : goal.handed-requires
handed-requires c =
    let made : IsPivoted c.args.row c.args.place c.args.tableau c.in-Some.more = search (rules) in
    more_stands c.args.rows.now.program c.args.row c.args.place c.args.tableau c.in-Some.more c.requires.stands c.requires.row c.requires.entering made

pub verify-requires-clause-scale : goal.verify-requires-clause-scale
verify-requires-clause-scale c =
    let made : IsPivoted c.args.row c.args.place c.args.tableau c.in-Some.more = search (rules) in
    let is : IsHanded c.args.rows.now.program c.in-Some.more.tableau c.in_ok-duals.duals.scale c.in_ok-duals.duals.multipliers.items = search (rules) in
    handed_scale c.args.rows.now.program c.in-Some.more c.in_ok-duals.duals.scale c.in_ok-duals.duals.multipliers.items
    (more_stands c.args.rows.now.program c.args.row c.args.place c.args.tableau c.in-Some.more c.requires.stands c.requires.row c.requires.entering made) is

pub returns : goal.returns
returns c =
    let made : IsPivoted c.args.row c.args.place c.args.tableau c.in-Some.more = search (rules) in
    let is : IsHanded c.args.rows.now.program c.in-Some.more.tableau c.in_ok-duals.duals.scale c.in_ok-duals.duals.multipliers.items = search (rules) in
    let narrow : is_wide (verdict c.args.rows.now.program c.in_ok-duals.duals.scale c.in_ok-duals.duals.multipliers.items 0) ≡ false = search (rules) in
    next_is c.args.rows.now.program c.args.row c.args.place c.args.tableau c.in-Some.more c.in_ok-duals.duals.scale c.in_ok-duals.duals.multipliers.items
    c.requires.stands c.requires.row c.requires.entering made is narrow
