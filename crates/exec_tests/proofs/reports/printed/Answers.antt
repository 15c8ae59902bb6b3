-- What is left to show of `printed`.
use Rattle.std.proofs.Common.{length, arith}
use Rattle.std.proofs.lemmas.Nat.{mul-le}
use Rattle.exec_tests.proofs.reports.printed.Goals as goal

pub report-requires-clause-orderly : goal.report-requires-clause-orderly
report-requires-clause-orderly c =
    let events = c.in-Closed.field-0.items in
    let explored = rw c.in-Closed.is at c.in_ok-explore.ensures.explored in
    let happen = c.a_pool_has_one_policy_run.ensures.happens c.args.turns c.in_ok-pool.pool c.explore.new.self events explored.0 in
    c.numbers_are_at_most_the_steps.ensures c.args.chart.now c.args.outline.now events c.explore.new.self (rw c.in_ok-pool.ensures.opened at happen)

pub report-requires-clause-room : goal.report-requires-clause-room
report-requires-clause-room c =
    let later = c.in_ok-explore.ensures.going_on in
    let steps = later.steps in
    let turns = c.if-turns-gt1000000.false in
    let few = c.if-node_count-gt512.false in
    let count = c.node_count.ensures in
    let most = mul-le (length c.args.outline.now.nodes) c.explore.new.self.steps 512 1000000 (omega (arith, few, count)) (omega (arith, steps, turns)) in
    omega (arith, most)
