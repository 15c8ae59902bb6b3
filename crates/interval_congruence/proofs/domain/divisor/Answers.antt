use Rattle.std.proofs.Common.{◌≡◌, true, false, sym, ◌∙◌}
use Rattle.strided_rules.specs.Members.{has}
use Rattle.interval_congruence.proofs.DivisorSizes.{divisor_divides}
use Rattle.interval_congruence.proofs.domain.divisor.Goals as goal

pub returns-then-has-clause-divisor : goal.returns-then-has-clause-divisor
returns-then-has-clause-divisor c =
    let e : has c.args.b 0 ≡ true = sym c.has.ensures ∙ c.if-has.true in
    rw c.without.ensures (rw e at (divisor_divides c.args.b c.numbers-numbers.ensures.stride))

pub returns-else-has-clause-divisor : goal.returns-else-has-clause-divisor
returns-else-has-clause-divisor c =
    let e : has c.args.b 0 ≡ false = sym c.has.ensures ∙ c.if-has.false in
    rw e at (divisor_divides c.args.b c.numbers-numbers.ensures.stride)
