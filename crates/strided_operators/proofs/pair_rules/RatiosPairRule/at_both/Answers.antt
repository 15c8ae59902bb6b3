use Rattle.std.proofs.Common.{◌≡◌}
use Rattle.strided_rules.specs.Rules.{ratios}
use Rattle.strided_operators.proofs.Places.{ratios_place}
use Rattle.strided_operators.proofs.pair_rules.RatiosPairRule.at_both.Goals as goal

pub returns-clause-place : goal.returns-clause-place
unfolding ratios
returns-clause-place c =
    let same : c.from_to.result ≡ ratios c.args.p.now c.args.q.now = cc in
    rw same (ratios_place c.args.p.now c.args.q.now c.requires.0 c.requires.1)
