use Rattle.interval_congruence.proofs.Bounds.{unsigned_far}
use Rattle.interval_congruence.proofs.value.Strided.far_unsigned.Goals as goal

pub returns-clause-far : goal.returns-clause-far
returns-clause-far c = unsigned_far c.args.self.size c.unsigned.result c.unsigned.ensures.stride.size.most c.unsigned.ensures.are
