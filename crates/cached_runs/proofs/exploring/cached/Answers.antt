-- What is left to show of `cached`.
use Rattle.cached_runs.specs.Answers.{lines_of}
use Rattle.cached_runs.proofs.CachedLaws.{closed_found, left_found}
use Rattle.cached_runs.proofs.exploring.cached.Goals as goal

pub returns-in-Closed-clause-found : goal.returns-in-Closed-clause-found
returns-in-Closed-clause-found g c =
    let explored = rw c.in-Closed.is at c.in_ok-explore.ensures.explored in
    closed_found g.S.Stepper.machine g.S.State.Lattice.order c.args.stepper.now c.args.outline.now c.args.policy c.args.turns c.in-Closed.field-0.items c.in_ok-pool.pool c.explore.new.self (lines_of c.in_ok-told-in-Closed.field-0) c.in_ok-pool.ensures.opened
    explored.0 explored.1 c.in_ok-told-in-Closed.ensures.told

pub returns-clause-found : goal.returns-clause-found
returns-clause-found g c =
    let explored = rw c.in-Left.is at c.in_ok-explore.ensures.explored in
    left_found g.S.Stepper.machine g.S.State.Lattice.order c.args.stepper.now c.args.outline.now c.args.policy c.args.turns c.in-Left.scope explored.0 c.in_ok-pool.pool c.explore.new.self c.in_ok-pool.ensures.opened explored.1 explored.2
