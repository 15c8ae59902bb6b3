use Rattle.std.proofs.Common.{◌^◌, pos, arith}
use Rattle.std.proofs.lemmas.Int.{ints}
use Rattle.std.proofs.lemmas.Nat.{pow_pos}
use Rattle.strided_operators.proofs.Places.{quotients_place}
use Rattle.strided_operators.proofs.Shifted.{quotients_past}
use Rattle.strided_operators.proofs.rules.ShiftsRule.at.Goals as goal

pub returns-then-self-lt66-clause-place : goal.returns-then-self-lt66-clause-place
returns-then-self-lt66-clause-place c = rw (c.quotients.ensures, c.power_of_two.ensures)
    (quotients_place (pos (2 ^ c.args.self.now.bits)) c.args.p.now (omega (arith, ints, pow_pos c.args.self.now.bits)) c.requires)

pub returns-else-self-lt66-clause-value : goal.returns-else-self-lt66-clause-value
returns-else-self-lt66-clause-value c = rw (c.quotients-else-self-lt66.ensures, c.power_of_two-else-self-lt66.ensures)
    (quotients_past c.args.self.now.bits c.args.p.now c.if-self-lt66.false c.requires)

pub returns-else-self-lt66-clause-place : goal.returns-else-self-lt66-clause-place
returns-else-self-lt66-clause-place c = rw (c.quotients-else-self-lt66.ensures, c.power_of_two-else-self-lt66.ensures)
    (quotients_place (pos (2 ^ 66)) c.args.p.now (omega (arith, ints)) c.requires)
