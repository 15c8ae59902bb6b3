use Rattle.std.proofs.Common.{◌≡◌}
use Rattle.strided_rules.specs.Rules.{lesser}
use Rattle.strided_operators.proofs.Places.{lesser_place}
use Rattle.strided_operators.proofs.pair_rules.LesserPairRule.at_both.Goals as goal

pub returns-clause-place : goal.returns-clause-place
unfolding lesser
returns-clause-place c =
    let same : c.from_to.result ≡ lesser c.args.p.now c.args.q.now = cc in
    rw same (lesser_place c.args.p.now c.args.q.now c.requires.0 c.requires.1)
