-- All openings are pivoted.
use Rattle.std.proofs.Common.{rules, ◌≡◌, length}
use Rattle.simplex_tableau.proofs.OpeningSteps.{all_opened}
use Rattle.simplex_tableau.proofs.opening.started.Goals as goal

pub returns : goal.returns
returns c =
    let all : c.loop-i.i ≡ length c.args.rows.now.openings = search (rules) in
    all_opened c.args.rows.now.program c.args.rows.now.openings c.loop-i.i c.loop-i.tableau all c.loop-i.invariant
