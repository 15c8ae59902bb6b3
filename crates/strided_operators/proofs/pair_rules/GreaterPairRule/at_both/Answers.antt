use Rattle.std.proofs.Common.{◌≡◌}
use Rattle.strided_rules.specs.Rules.{greater}
use Rattle.strided_operators.proofs.Places.{greater_place}
use Rattle.strided_operators.proofs.pair_rules.GreaterPairRule.at_both.Goals as goal

pub returns-clause-place : goal.returns-clause-place
unfolding greater
returns-clause-place c =
    let same : c.from_to.result ≡ greater c.args.p.now c.args.q.now = cc in
    rw same (greater_place c.args.p.now c.args.q.now c.requires.0 c.requires.1)
