use Rattle.strided_operators.proofs.Places.{rests_place}
use Rattle.strided_operators.proofs.rules.RestsRule.at.Goals as goal

pub returns-clause-place : goal.returns-clause-place
returns-clause-place c = rw c.rests_by.ensures (rests_place c.args.self.now.divisor c.args.p.now c.args.self.now.positive c.args.self.now.small c.requires)
