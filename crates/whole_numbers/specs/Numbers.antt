-- Divisibility and greatest common divisors of whole numbers.
--   Divides d z                z is a multiple of d; of 0 that is 0 alone
--   IsGreatestDivisor g a b    g divides a and b, is not negative, and each number that divides both divides it
--   IsFloor q z d              q is the greatest whole number whose product with d is at most z
--   gcd a b                    the greatest common divisor, of 0 and 0 that is 0
use Rattle.std.specs.Prelude.{◌≡◌, ℕ, zero, suc, ℤ, pos, ◌+ℤ◌, ◌*ℤ◌, ◌≤ℤ◌, ◌<ℤ◌, ◌%◌, ◌==◌, if◌then◌else◌, unsigned_abs}

-- z is a multiple of d
pub record Divides (d z : ℤ) : Type 0 where
  pub times : ℤ
  pub is : z ≡ times *ℤ d

-- g divides both, and what divides both divides g
pub record IsGreatestDivisor (g a b : ℤ) : Type 0 where
  pub rising : pos 0 ≤ℤ g
  pub first : Divides g a
  pub second : Divides g b
  pub greatest : (d : ℤ) → Divides d a → Divides d b → Divides d g

-- the product of q and d is at most z, and that of q + 1 and d is above z
pub record IsFloor (q z d : ℤ) : Type 0 where
  pub least : (q *ℤ d) ≤ℤ z
  pub most : z <ℤ ((q +ℤ pos 1) *ℤ d)

-- the steps of Euclid
abbrev pub gcd_within : ℕ → ℕ → ℕ → ℕ
gcd_within zero a b = a
gcd_within (suc turns) a b = if b == 0 then a else gcd_within turns b (a % b)

-- the greatest common divisor of two natural numbers
unfoldable pub gcd_nat : ℕ → ℕ → ℕ
gcd_nat a b = gcd_within (suc b) a b

-- the greatest common divisor of two whole numbers
abbrev pub gcd : ℤ → ℤ → ℤ
gcd a b = pos (gcd_nat (unsigned_abs a) (unsigned_abs b))
