use Rattle.whole_numbers.proofs.divisors.+wide_divisor.Given as goal

abbrev pub decreases-wide_divisor : goal.decreases-wide_divisor
decreases-wide_divisor l = l.b
