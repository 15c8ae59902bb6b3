use Rattle.interval_congruence.proofs.Bounds.{signed_far}
use Rattle.interval_congruence.proofs.value.Strided.signed_between.Goals as goal

pub pieces_between-requires-clause-pieces : goal.pieces_between-requires-clause-pieces
pieces_between-requires-clause-pieces c = signed_far c.args.self.size c.signed-pieces.result c.signed-pieces.ensures.stride.size.least c.signed-pieces.ensures.stride.size.most c.signed-pieces.ensures.are
