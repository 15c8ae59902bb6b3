-- Each turn ends the run, or goes on with it.
use Rattle.std.proofs.Common.{rules, ◌≡◌, ◌≤◌, ◌<◌, None, Some, ◌∙◌}
use Rattle.simplex_rules.specs.PivotRule.{leaving, at_limit, run}
use Rattle.path_lp.specs.Stepping.{stepped, IsNext}
use Rattle.path_lp.specs.Solving.{IsSolved}
use Rattle.path_lp.proofs.RunLaws.{run_least, run_wide, run_goes, run_ends}
use Rattle.path_lp.proofs.running.run.Goals as goal

pub returns-in_default : goal.returns-in_default
returns-in_default c =
    let p = c.args.rows.now.program in
    let t = c.loop-made.tableau.tableau in
    let less : c.loop-made.made < c.args.pivots = search (rules) in
    let none : leaving c.loop-made.tableau.tableau ≡ None = search (rules) in
    let solved : IsSolved c.args.rows.now.program (at_limit c.loop-made.tableau.tableau None) c.in_ok-solved.solved.duals.scale c.in_ok-solved.solved.duals.multipliers.items c.in_ok-solved.solved.end = search (rules) in
    run_least p c.args.pivots c.loop-made.made t (run p c.args.pivots 0 c.args.start.tableau) c.in_ok-solved.solved.duals.scale c.in_ok-solved.solved.duals.multipliers.items c.in_ok-solved.solved.end
    less none c.loop-made.invariant.run solved

pub returns-in_default-2 : goal.returns-in_default-2
returns-in_default-2 c =
    let p = c.args.rows.now.program in
    let t = c.loop-made.tableau.tableau in
    let less : c.loop-made.made < c.args.pivots = search (rules) in
    let chosen : leaving c.loop-made.tableau.tableau ≡ Some c.in-Some.row = search (rules) in
    let wide : stepped c.args.rows.now.program c.in-Some.row c.loop-made.tableau.tableau ≡ None = search (rules) in
    run_wide p c.args.pivots c.loop-made.made c.in-Some.row t (run p c.args.pivots 0 c.args.start.tableau) c.loop-made.duals.scale c.loop-made.duals.multipliers.items
    less chosen wide c.loop-made.invariant.run c.loop-made.invariant.handed

pub loop-made-preserved : goal.loop-made-preserved
loop-made-preserved c =
    let p = c.args.rows.now.program in
    let t = c.loop-made.tableau.tableau in
    let less : c.loop-made.made < c.args.pivots = search (rules) in
    let chosen : leaving c.loop-made.tableau.tableau ≡ Some c.in-Some.row = search (rules) in
    let next : IsNext c.args.rows.now.program c.in-Some.row c.loop-made.tableau.tableau c.in-Some-2.further.tableau c.in-Some-2.further.duals.scale c.in-Some-2.further.duals.multipliers.items = search (rules) in
    record {
      stands = next.stands;
      handed = next.handed;
      run = run_goes p c.args.pivots c.loop-made.made c.in-Some.row t c.in-Some-2.further.tableau (run p c.args.pivots 0 c.args.start.tableau) c.in-Some-2.further.duals.scale c.in-Some-2.further.duals.multipliers.items
          less chosen next c.loop-made.invariant.run;
    }

pub returns : goal.returns
returns c =
    let p = c.args.rows.now.program in
    let t = c.loop-made.tableau.tableau in
    let past : c.args.pivots ≤ c.loop-made.made = search (rules) in
    let solved : IsSolved c.args.rows.now.program (at_limit c.loop-made.tableau.tableau (leaving c.loop-made.tableau.tableau)) c.in_ok-solved-2.solved.duals.scale c.in_ok-solved-2.solved.duals.multipliers.items c.in_ok-solved-2.solved.end = search (rules) in
    run_ends p c.args.pivots c.loop-made.made t (run p c.args.pivots 0 c.args.start.tableau) c.in_ok-solved-2.solved.duals.scale c.in_ok-solved-2.solved.duals.multipliers.items c.in_ok-solved-2.solved.end
    past c.loop-made.invariant.run solved
