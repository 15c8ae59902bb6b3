use Rattle.std.proofs.Common.{◌≡◌}
use Rattle.strided_rules.specs.Members.{signed_greatest}
use Rattle.interval_congruence.proofs.Bounds.{signed_greatest_far}
use Rattle.interval_congruence.proofs.value.Strided.signed_greatest.Goals as goal

pub returns-clause-low : goal.returns-clause-low
returns-clause-low c = let same : c.greatest_of.result ≡ signed_greatest c.args.self = cc in rw same ((signed_greatest_far c.args.self c.signed-pieces.ensures.stride).0)

pub returns-clause-high : goal.returns-clause-high
returns-clause-high c = let same : c.greatest_of.result ≡ signed_greatest c.args.self = cc in rw same ((signed_greatest_far c.args.self c.signed-pieces.ensures.stride).1)
