use Rattle.std.proofs.Common.{◌≡◌, ◌<◌, length, arith}
use Rattle.domain_core.specs.Outlines.{shape_of}
use Rattle.left_ends.proofs.Turns.{stepper_along, first_watched, turn_on, turn_least, each_end, node_inside}
use Rattle.left_ends.proofs.watching.left_ends.Goals as goal

pub start-requires-clause-along : goal.start-requires-clause-along
start-requires-clause-along c =
    stepper_along c.args.checked.now c.args.graph.now c.args.rows.now (shape_of c.args.outline.now) c.in_ok-stepper.stepper c.in_ok-stepper.ensures c.goes_along.ensures c.requires.outline

pub loop-pool-init : goal.loop-pool-init
loop-pool-init c =
    first_watched c.args.turns c.args.policy c.in_ok-points.points.items c.args.checked.now c.args.graph.now c.args.rows.now c.args.outline.now
    c.in_ok-pool.pool c.in_ok-stepper.stepper c.in_ok-stepper.ensures c.in_ok-pool.ensures.kept c.in_ok-pool.ensures.opened c.in_ok-points.ensures

pub loop-pool-preserved : goal.loop-pool-preserved
loop-pool-preserved c =
    let low : c.loop-pool.pool.steps < c.args.turns = omega (arith, c.steps.ensures, c.if-steps-turns.true) in
    turn_on c.args.turns c.args.policy c.in_ok-points.points.items c.args.checked.now c.args.graph.now c.args.rows.now c.args.outline.now
    c.loop-pool.ends c.in_ok-ends.ends c.loop-pool.pool c.turn.new.pool c.loop-pool.invariant low c.in_ok-ends.ensures.are c.in_ok-ends.ensures.more
    c.in_ok-ends.ensures.pool c.in_ok-ends.ensures.turn

pub loop-pool-smaller : goal.loop-pool-smaller
loop-pool-smaller c =
    let low : c.loop-pool.pool.steps < c.args.turns = omega (arith, c.steps.ensures, c.if-steps-turns.true) in
    turn_least c.args.turns c.args.policy c.in_ok-points.points.items c.args.checked.now c.args.graph.now c.args.rows.now c.args.outline.now
    c.in_ok-ends.ends c.loop-pool.pool c.turn.new.pool c.in_ok-ends.ensures.turn c.in_ok-ends.ensures.pool.pool.few low

pub returns-then-places-eq0 : goal.returns-then-places-eq0
returns-then-places-eq0 c =
    let none : length c.loop-pool.pool.spots ≡ 0 = omega (arith, c.places-2.ensures, c.if-places-eq0.true) in
    each_end c.args.turns c.args.policy c.in_ok-points.points.items c.args.checked.now c.args.graph.now c.args.rows.now c.args.outline.now
    c.loop-pool.ends c.loop-pool.pool c.loop-pool.invariant none

pub node-requires : goal.node-requires
node-requires c =
    node_inside c.args.turns c.args.policy c.in_ok-points.points.items c.args.checked.now c.args.graph.now c.args.rows.now c.args.outline.now
    c.loop-pool.ends c.loop-pool.pool 0 c.node_at-node.result c.loop-pool.invariant c.node_at-node.ensures
