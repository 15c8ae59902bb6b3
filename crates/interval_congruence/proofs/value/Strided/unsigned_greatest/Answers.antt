use Rattle.std.proofs.Common.{◌≡◌}
use Rattle.strided_rules.specs.Members.{unsigned_greatest}
use Rattle.interval_congruence.proofs.Bounds.{unsigned_greatest_far}
use Rattle.interval_congruence.proofs.value.Strided.unsigned_greatest.Goals as goal

pub returns-clause-low : goal.returns-clause-low
returns-clause-low c = let same : c.greatest_of.result ≡ unsigned_greatest c.args.self = cc in rw same ((unsigned_greatest_far c.args.self c.unsigned-pieces.ensures.stride).0)

pub returns-clause-high : goal.returns-clause-high
returns-clause-high c = let same : c.greatest_of.result ≡ unsigned_greatest c.args.self = cc in rw same ((unsigned_greatest_far c.args.self c.unsigned-pieces.ensures.stride).1)
