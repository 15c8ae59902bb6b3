use Rattle.interval_congruence.proofs.Bounds.{unsigned_far}
use Rattle.interval_congruence.proofs.value.Strided.unsigned_between.Goals as goal

pub pieces_between-requires-clause-pieces : goal.pieces_between-requires-clause-pieces
pieces_between-requires-clause-pieces c = unsigned_far c.args.self.size c.unsigned-pieces.result c.unsigned-pieces.ensures.stride.size.most c.unsigned-pieces.ensures.are
