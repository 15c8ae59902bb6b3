-- The greatest common divisor.
--   gcd_end, gcd_next     the steps of Euclid
--   gcd_first, gcd_second, gcd_is_greatest   it divides both, and what divides both divides it
--   gcd_fits, gcd_fits_first   it fits 128 bits where both numbers are above the least one, or the first is so and not 0
--   size_divides, by_sizes   divisibility is that of the sizes
use Rattle.std.proofs.Common.{◌≡◌, ℕ, ℤ, pos, negsuc, zero, suc, ◌<◌, ◌≤◌, ◌^◌, arith, refl, ap, ◌%◌, ◌/◌, ⊎_elim}
use Rattle.std.specs.Prelude.{◌-ℤ◌, unsigned_abs}
use Rattle.std.specs.Int.{IsGcd, ◌∣◌, w128}
use Rattle.std.specs.Int.RustNames.{FitsSigned}
use Rattle.std.proofs.lemmas.Int.{ints, unsigned_abs-mul, fits_signed_from_abs}
use Rattle.std.proofs.Math.IntN.{*ℤ_comm}
use Rattle.std.proofs.Math.Nat.{dvd-mul_left}
use Rattle.std.proofs.lemmas.Nat.{div-add-mod', mod_below}
use Rattle.std.proofs.lemmas.Nat.Gcd.{IsGcd-from_zero, IsGcd-from_mod, same_from_IsGcd, mod-eq-zero_of_dvd, le_of_dvd}
use Rattle.std.proofs.lemmas.Bool.{cases_eq, ne_eqb}
use Rattle.whole_numbers.specs.Numbers.{Divides, IsGreatestDivisor, gcd, gcd_nat, gcd_within}
use Rattle.whole_numbers.specs.MultipleLaws.{difference_times}

-- The greatest common divisor.

gcd_of_steps : (turns a b : ℕ) → b < turns → IsGcd a b (gcd_within turns a b)
gcd_of_steps zero a b few = absurd (omega arith)
gcd_of_steps (suc turns) a b few = ⊎_elim
    (λ (e : b ≡ 0). rw e (IsGcd-from_zero a 0 refl))
    (λ (n : b ≡ 0 → ⊥).
    let less : a % b < turns = omega (arith, mod_below a b (let h : 0 < b = omega arith in h)) in
    rw (ne_eqb b 0 n) (IsGcd-from_mod a b (gcd_within turns b (a % b)) (gcd_of_steps turns b (a % b) less)))
    (cases_eq b 0)

pub gcd_is : (a b : ℕ) → IsGcd a b (gcd_nat a b)
unfolding gcd_nat
gcd_is a b = gcd_of_steps (suc b) a b (omega arith)

-- one step of Euclid
pub gcd_end : (a : ℕ) → a ≡ gcd_nat a 0
gcd_end a = same_from_IsGcd a 0 a (gcd_nat a 0) (IsGcd-from_zero a 0 refl) (gcd_is a 0)

pub gcd_next : (a b : ℕ) → gcd_nat b (a % b) ≡ gcd_nat a b
gcd_next a b = same_from_IsGcd a b (gcd_nat b (a % b)) (gcd_nat a b) (IsGcd-from_mod a b (gcd_nat b (a % b)) (gcd_is b (a % b))) (gcd_is a b)

-- what divides the size divides the number
by_size : (d : ℕ) (z : ℤ) → d ∣ unsigned_abs z → Divides (pos d) z
by_size d (pos n) m = record { times = pos (n / d); is = omega (arith, ints, div-add-mod' n d, mod-eq-zero_of_dvd d m) }
by_size d (negsuc n) m = record { times = pos 0 -ℤ pos (suc n / d); is = omega (arith, ints, div-add-mod' (suc n) d, mod-eq-zero_of_dvd d m, difference_times (pos 0) (pos (suc n / d)) (pos d)) }

pub gcd_first : (a b : ℤ) → Divides (gcd a b) a
gcd_first a b = by_size (gcd_nat (unsigned_abs a) (unsigned_abs b)) a (gcd_is (unsigned_abs a) (unsigned_abs b)).0

pub gcd_second : (a b : ℤ) → Divides (gcd a b) b
gcd_second a b = by_size (gcd_nat (unsigned_abs a) (unsigned_abs b)) b (gcd_is (unsigned_abs a) (unsigned_abs b)).1

-- The greatest common divisor of whole numbers.

-- what divides a number divides it by sizes
pub size_divides : (d z : ℤ) → Divides d z → unsigned_abs d ∣ unsigned_abs z
size_divides d z m = rw (ap unsigned_abs m.is, unsigned_abs-mul m.times d) (dvd-mul_left (unsigned_abs d) (unsigned_abs m.times))

-- and what divides it by sizes divides it
pub by_sizes : (d z : ℤ) → unsigned_abs d ∣ unsigned_abs z → Divides d z
by_sizes (pos d) z m = by_size d z m
by_sizes (negsuc d) z m = let p = by_size (suc d) z m in record { times = pos 0 -ℤ p.times; is = omega (arith, ints, p.is, difference_times (pos 0) p.times (negsuc d), *ℤ_comm p.times (negsuc d), *ℤ_comm p.times (pos (suc d)), difference_times (pos 0) (pos (suc d)) p.times) }

-- it is one
pub gcd_is_greatest : (a b : ℤ) → IsGreatestDivisor (gcd a b) a b
gcd_is_greatest a b = record {
  rising = omega (arith, ints);
  first = gcd_first a b;
  second = gcd_second a b;
  greatest = λ d p q. by_sizes d (gcd a b) ((gcd_is (unsigned_abs a) (unsigned_abs b)).2 (unsigned_abs d) (size_divides d a p) (size_divides d b q));
}

-- it fits 128 bits
pub gcd_most : (a b : ℕ) → 0 < a → gcd_nat a b ≤ a
gcd_most a b positive = le_of_dvd positive (gcd_is a b).0

pub gcd_fits_first : (a b : ℤ) → 0 < unsigned_abs a → unsigned_abs a < 2 ^ 127 → FitsSigned w128 (gcd a b)
gcd_fits_first a b positive small = fits_signed_from_abs w128 (gcd a b) (omega (arith, ints, gcd_most (unsigned_abs a) (unsigned_abs b) positive, small))

gcd_below : (a b : ℕ) → a < 2 ^ 127 → b < 2 ^ 127 → gcd_nat a b < 2 ^ 127
gcd_below zero zero p q = omega (arith, gcd_end 0)
gcd_below (suc a) b p q = omega (arith, gcd_most (suc a) b (let h : 0 < suc a = omega arith in h))
gcd_below zero (suc b) p q = omega (arith, le_of_dvd (let h : 0 < suc b = omega arith in h) (gcd_is zero (suc b)).1)

pub gcd_fits : (a b : ℤ) → unsigned_abs a < 2 ^ 127 → unsigned_abs b < 2 ^ 127 → FitsSigned w128 (gcd a b)
gcd_fits a b p q = fits_signed_from_abs w128 (gcd a b) (gcd_below (unsigned_abs a) (unsigned_abs b) p q)

-- that of three numbers fits too
pub gcd_fits_three : (a b c : ℤ) → unsigned_abs a < 2 ^ 127 → unsigned_abs b < 2 ^ 127 → unsigned_abs c < 2 ^ 127
    → FitsSigned w128 (gcd (gcd a b) c)
gcd_fits_three a b c p q r = gcd_fits (gcd a b) c (gcd_below (unsigned_abs a) (unsigned_abs b) p q) r
