use Rattle.std.proofs.Common.{◌≡◌}
use Rattle.strided_rules.specs.Members.{signed_least}
use Rattle.interval_congruence.proofs.Bounds.{signed_least_far}
use Rattle.interval_congruence.proofs.value.Strided.signed_least.Goals as goal

pub returns-clause-low : goal.returns-clause-low
returns-clause-low c = let same : c.least_of.result ≡ signed_least c.args.self = cc in rw same ((signed_least_far c.args.self c.signed-pieces.ensures.stride).0)

pub returns-clause-high : goal.returns-clause-high
returns-clause-high c = let same : c.least_of.result ≡ signed_least c.args.self = cc in rw same ((signed_least_far c.args.self c.signed-pieces.ensures.stride).1)
