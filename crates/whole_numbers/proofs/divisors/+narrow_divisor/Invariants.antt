use Rattle.whole_numbers.proofs.divisors.+narrow_divisor.Given as goal

abbrev pub decreases-narrow_divisor : goal.decreases-narrow_divisor
decreases-narrow_divisor l = l.b
