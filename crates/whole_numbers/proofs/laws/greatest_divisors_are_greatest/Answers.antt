use Rattle.whole_numbers.specs.GcdLaws.{gcd_is_greatest}
use Rattle.whole_numbers.proofs.laws.greatest_divisors_are_greatest.Goals as goal

pub returns : goal.returns
returns c = gcd_is_greatest
