use Rattle.std.proofs.Common.{◌≡◌}
use Rattle.strided_rules.specs.Rules.{signed_rests}
use Rattle.strided_operators.proofs.Places.{signed_rests_place}
use Rattle.strided_operators.proofs.rules.SignedRestsRule.at.Goals as goal

pub returns-clause-place : goal.returns-clause-place
unfolding signed_rests
returns-clause-place c =
    let same : c.from_to.result ≡ signed_rests c.args.self.now.size c.args.p.now = cc in
    rw same (signed_rests_place c.args.self.now.size c.args.p.now c.args.self.now.positive c.args.self.now.small c.requires)
