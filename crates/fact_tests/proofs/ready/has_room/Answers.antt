-- The sum.
use Rattle.std.proofs.Common.{refl, arith}
use Rattle.fact_tests.proofs.Room.{room_left}
use Rattle.fact_tests.proofs.ready.has_room.Goals as goal

pub returns : goal.returns
returns c cheap =
    let count = c.node_count.ensures in
    let fits = c.node_count.type_inv in
    room_left c.args.outline.now c.args.facts.now (c.if-not-are_low.ensures refl) (c.are_cheap.ensures cheap) (omega (arith, count, fits))
