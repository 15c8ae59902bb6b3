-- The run from the opening is the rule's, and what the rule promises holds of what is told.
use Rattle.std.proofs.Common.{rules}
use Rattle.simplex_rules.specs.PivotRule.{run}
use Rattle.simplex_rules.specs.OpeningPlaces.{ended}
use Rattle.simplex_tableau.specs.Started.{IsStarted}
use Rattle.path_lp.specs.Solving.{IsSolved}
use Rattle.path_lp.proofs.RunLaws.{start_stands, solved_run, solved_dual, solved_holds, solved_most, solved_least}
use Rattle.path_lp.proofs.running.solve.Goals as goal

pub run-requires : goal.run-requires
run-requires c =
    let begun : IsStarted c.args.rows.now.program c.args.rows.now.openings c.in_ok-start.start = search (rules) in
    start_stands c.args.rows.now.program c.args.rows.now.openings c.in_ok-start.start
    (c.points_of_rule.ensures.right c.args.rows.now.program c.args.rows.now.openings c.kept.ensures.within c.requires) begun

pub returns-clause-rule : goal.returns-clause-rule
returns-clause-rule c =
    let p = c.args.rows.now.program in
    let os = c.args.rows.now.openings in
    let n = c.args.pivots in
    let x = ended p os n in
    let s = c.in_ok-solved.solved in
    let begun : IsStarted c.args.rows.now.program c.args.rows.now.openings c.in_ok-start.start = search (rules) in
    let told : IsSolved c.args.rows.now.program (run c.args.rows.now.program c.args.pivots 0 c.in_ok-start.start.tableau) c.in_ok-solved.solved.duals.scale c.in_ok-solved.solved.duals.multipliers.items c.in_ok-solved.solved.end = search (rules) in
    let solved = solved_run p os n c.in_ok-start.start s.duals.scale s.duals.multipliers.items s.end begun told in
    solved

pub returns-clause-dual : goal.returns-clause-dual
returns-clause-dual c =
    let p = c.args.rows.now.program in
    let os = c.args.rows.now.openings in
    let n = c.args.pivots in
    let x = ended p os n in
    let s = c.in_ok-solved.solved in
    let begun : IsStarted c.args.rows.now.program c.args.rows.now.openings c.in_ok-start.start = search (rules) in
    let told : IsSolved c.args.rows.now.program (run c.args.rows.now.program c.args.pivots 0 c.in_ok-start.start.tableau) c.in_ok-solved.solved.duals.scale c.in_ok-solved.solved.duals.multipliers.items c.in_ok-solved.solved.end = search (rules) in
    let solved = solved_run p os n c.in_ok-start.start s.duals.scale s.duals.multipliers.items s.end begun told in
    solved_dual p x s.duals.scale s.duals.multipliers.items s.end (c.rule_answers.ensures.answers p os n c.kept.ensures.within c.requires) solved

pub returns-clause-holds : goal.returns-clause-holds
returns-clause-holds c =
    let p = c.args.rows.now.program in
    let os = c.args.rows.now.openings in
    let n = c.args.pivots in
    let x = ended p os n in
    let s = c.in_ok-solved.solved in
    let begun : IsStarted c.args.rows.now.program c.args.rows.now.openings c.in_ok-start.start = search (rules) in
    let told : IsSolved c.args.rows.now.program (run c.args.rows.now.program c.args.pivots 0 c.in_ok-start.start.tableau) c.in_ok-solved.solved.duals.scale c.in_ok-solved.solved.duals.multipliers.items c.in_ok-solved.solved.end = search (rules) in
    let solved = solved_run p os n c.in_ok-start.start s.duals.scale s.duals.multipliers.items s.end begun told in
    let narrow = c.opening_fits.ensures.narrow p os c.kept.ensures.within c.requires c.kept.ensures.small in
    solved_holds p x s.duals.scale s.duals.multipliers.items s.end (λ bound most. c.handed_duals_hold.ensures p os n bound c.kept.ensures.within c.requires narrow most) solved

pub returns-clause-most : goal.returns-clause-most
returns-clause-most c =
    let p = c.args.rows.now.program in
    let os = c.args.rows.now.openings in
    let n = c.args.pivots in
    let x = ended p os n in
    let s = c.in_ok-solved.solved in
    let begun : IsStarted c.args.rows.now.program c.args.rows.now.openings c.in_ok-start.start = search (rules) in
    let told : IsSolved c.args.rows.now.program (run c.args.rows.now.program c.args.pivots 0 c.in_ok-start.start.tableau) c.in_ok-solved.solved.duals.scale c.in_ok-solved.solved.duals.multipliers.items c.in_ok-solved.solved.end = search (rules) in
    let solved = solved_run p os n c.in_ok-start.start s.duals.scale s.duals.multipliers.items s.end begun told in
    solved_most p os x s.duals.scale s.duals.multipliers.items s.end (c.rule_answers.ensures.most p os n c.kept.ensures.within c.requires) solved

pub returns-clause-least : goal.returns-clause-least
returns-clause-least c =
    let p = c.args.rows.now.program in
    let os = c.args.rows.now.openings in
    let n = c.args.pivots in
    let x = ended p os n in
    let s = c.in_ok-solved.solved in
    let begun : IsStarted c.args.rows.now.program c.args.rows.now.openings c.in_ok-start.start = search (rules) in
    let told : IsSolved c.args.rows.now.program (run c.args.rows.now.program c.args.pivots 0 c.in_ok-start.start.tableau) c.in_ok-solved.solved.duals.scale c.in_ok-solved.solved.duals.multipliers.items c.in_ok-solved.solved.end = search (rules) in
    let solved = solved_run p os n c.in_ok-start.start s.duals.scale s.duals.multipliers.items s.end begun told in
    solved_least p x s.duals.scale s.duals.multipliers.items s.end
    (λ point end read. c.rule_answers.ensures.point p os n point c.kept.ensures.within c.requires end read) solved
