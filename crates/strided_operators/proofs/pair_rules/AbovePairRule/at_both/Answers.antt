use Rattle.std.proofs.Common.{◌≡◌}
use Rattle.strided_rules.specs.Rules.{above}
use Rattle.strided_operators.proofs.Factors.{near_lo, near_hi, near_step, multiple_fits, sum_fits, step_fits, above_place}
use Rattle.strided_operators.proofs.pair_rules.AbovePairRule.at_both.Goals as goal

pub returns-clause-place : goal.returns-clause-place
unfolding above
returns-clause-place c =
    let same : c.from_to.result ≡ above c.args.self.now.unit c.args.p.now c.args.q.now = cc in
    rw same (above_place c.args.self.now.unit c.args.p.now c.args.q.now c.args.self.now.rising c.args.self.now.small c.requires.0 c.requires.1)

pub mul-requires : goal.mul-requires
mul-requires c = multiple_fits c.args.p.now.step c.args.self.now.unit c.args.self.now.rising c.args.self.now.small (near_step c.args.p.now c.requires.0)

pub common_divisor-step-requires : goal.common_divisor-step-requires
common_divisor-step-requires c = rw c.mul.ensures (step_fits c.args.p.now.step c.args.self.now.unit c.args.q.now.step c.args.self.now.rising c.args.self.now.small (near_step c.args.p.now c.requires.0) (near_step c.args.q.now c.requires.1))

pub mul-requires-2 : goal.mul-requires-2
mul-requires-2 c = multiple_fits c.args.p.now.lo c.args.self.now.unit c.args.self.now.rising c.args.self.now.small (near_lo c.args.p.now c.requires.0)

pub add-requires : goal.add-requires
add-requires c = rw c.mul-2.ensures (sum_fits c.args.p.now.lo c.args.self.now.unit c.args.q.now.lo c.args.self.now.rising c.args.self.now.small (near_lo c.args.p.now c.requires.0) (near_lo c.args.q.now c.requires.1))

pub mul-requires-3 : goal.mul-requires-3
mul-requires-3 c = multiple_fits c.args.p.now.hi c.args.self.now.unit c.args.self.now.rising c.args.self.now.small (near_hi c.args.p.now c.requires.0)

pub add-requires-2 : goal.add-requires-2
add-requires-2 c = rw c.mul-3.ensures (sum_fits c.args.p.now.hi c.args.self.now.unit c.args.q.now.hi c.args.self.now.rising c.args.self.now.small (near_hi c.args.p.now c.requires.0) (near_hi c.args.q.now c.requires.1))
