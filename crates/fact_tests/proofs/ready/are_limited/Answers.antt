-- One node more.
use Rattle.std.proofs.Common.{refl, arith}
use Rattle.fact_tests.proofs.Room.{limited_more}
use Rattle.fact_tests.proofs.ready.are_limited.Goals as goal

pub loop-node-preserved : goal.loop-node-preserved
loop-node-preserved c = limited_more c.args.facts.now c.loop-node.node c.loop-node.invariant (c.if-not-is_limited.ensures refl)

pub returns : goal.returns
returns c is n low =
    let ended = c.loop-node-test.false in
    c.loop-node.invariant n (omega (arith, low, ended))
