use Rattle.interval_congruence.proofs.Bounds.{signed_far}
use Rattle.interval_congruence.proofs.value.Strided.signed_each.Goals as goal

pub each-requires-clause-pieces : goal.each-requires-clause-pieces
each-requires-clause-pieces g c = signed_far c.args.self.size c.signed-pieces.result c.signed-pieces.ensures.stride.size.least c.signed-pieces.ensures.stride.size.most c.signed-pieces.ensures.are
