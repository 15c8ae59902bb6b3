use Rattle.interval_congruence.proofs.Bounds.{signed_far}
use Rattle.interval_congruence.proofs.value.Strided.far_signed.Goals as goal

pub returns-clause-far : goal.returns-clause-far
returns-clause-far c = signed_far c.args.self.size c.signed.result c.signed.ensures.stride.size.least c.signed.ensures.stride.size.most c.signed.ensures.are
