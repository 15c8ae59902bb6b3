use Rattle.std.proofs.Common.{◌≡◌}
use Rattle.strided_rules.specs.Members.{unsigned_least}
use Rattle.interval_congruence.proofs.Bounds.{unsigned_least_far}
use Rattle.interval_congruence.proofs.value.Strided.unsigned_least.Goals as goal

pub returns-clause-low : goal.returns-clause-low
returns-clause-low c = let same : c.least_of.result ≡ unsigned_least c.args.self = cc in rw same ((unsigned_least_far c.args.self c.unsigned-pieces.ensures.stride).0)

pub returns-clause-high : goal.returns-clause-high
returns-clause-high c = let same : c.least_of.result ≡ unsigned_least c.args.self = cc in rw same ((unsigned_least_far c.args.self c.unsigned-pieces.ensures.stride).1)
