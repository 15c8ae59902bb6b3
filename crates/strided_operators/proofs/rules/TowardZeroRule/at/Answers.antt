use Rattle.std.proofs.Common.{◌≡◌}
use Rattle.strided_rules.specs.Rules.{toward_zero}
use Rattle.strided_operators.proofs.Places.{toward_zero_place}
use Rattle.strided_operators.proofs.rules.TowardZeroRule.at.Goals as goal

pub returns-clause-place : goal.returns-clause-place
unfolding toward_zero
returns-clause-place c =
    let same : c.from_to.result ≡ toward_zero c.args.self.now.divisor c.args.p.now = cc in
    rw same (toward_zero_place c.args.self.now.divisor c.args.p.now c.args.self.now.some c.requires)
