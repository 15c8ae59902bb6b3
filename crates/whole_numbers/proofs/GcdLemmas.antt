-- On the way to the laws of gcd.
--   multiple_test      a number is a multiple of one other than 0 exactly where its size leaves no rest
--   multiple_of_zero   and of 0 exactly where it is 0
use Rattle.std.proofs.Common.{◌≡◌, ℤ, pos, arith, ◌%◌, ◌↔◌, ◌≢◌}
use Rattle.std.specs.Prelude.{unsigned_abs}
use Rattle.std.proofs.lemmas.Int.{ints}
use Rattle.std.proofs.lemmas.Nat.Gcd.{mod-eq-zero_of_dvd, dvd_of_mod-eq-zero}
use Rattle.whole_numbers.specs.Numbers.{Divides}
use Rattle.whole_numbers.specs.GcdLaws.{size_divides, by_sizes}

-- The greatest common divisor.

-- The greatest common divisor of whole numbers.

-- a number is a multiple of one other than 0 exactly where its size leaves no rest
pub multiple_test : (z d : ℤ) → d ≢ pos 0 → (unsigned_abs z % unsigned_abs d ≡ 0) ↔ Divides d z
multiple_test z d other = (λ e. by_sizes d z (dvd_of_mod-eq-zero (unsigned_abs d) e), λ m. mod-eq-zero_of_dvd (unsigned_abs d) (size_divides d z m))

-- and of 0 exactly where it is 0
pub multiple_of_zero : (z : ℤ) → (z ≡ pos 0) ↔ Divides (pos 0) z
multiple_of_zero z = (λ e. record { times = pos 0; is = omega (arith, ints, e) }, λ m. omega (arith, ints, m.is))
