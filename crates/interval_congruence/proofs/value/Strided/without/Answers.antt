use Rattle.interval_congruence.proofs.Bounds.{unsigned_far}
use Rattle.interval_congruence.proofs.value.Strided.without.Goals as goal

pub without_end-requires : goal.without_end-requires
without_end-requires c = (unsigned_far c.args.self.size c.unsigned-pieces.result c.unsigned-pieces.ensures.stride.size.most c.unsigned-pieces.ensures.are).first

pub without_end-requires-2 : goal.without_end-requires-2
without_end-requires-2 c = (unsigned_far c.args.self.size c.unsigned-pieces.result c.unsigned-pieces.ensures.stride.size.most c.unsigned-pieces.ensures.are).second

pub without_end-requires-3 : goal.without_end-requires-3
without_end-requires-3 c = (unsigned_far c.args.self.size c.unsigned-pieces.result c.unsigned-pieces.ensures.stride.size.most c.unsigned-pieces.ensures.are).third
