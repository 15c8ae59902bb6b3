-- Images of progressions: the numbers that arithmetic makes of theirs, as the least ends and a step that reach them
-- all.
--   moved d p              each number and d
--   negated p              each number with the other sign
--   sums p q, differences p q, products p q   of a number of each
--   multiples d p          each number times d
--   quotients d p          each number divided by d, rounded down; where d does not divide the step, all between the ends
use Rattle.std.specs.Prelude.{ℤ, pos, neg_ℤ, ◌+ℤ◌, ◌-ℤ◌, ◌*ℤ◌, int_le, if◌then◌else◌}
use Rattle.std.specs.Int.{int_rem_euclid, int_div_euclid, int_min, int_max}
use Rattle.whole_numbers.specs.Numbers.{gcd}
use Rattle.progressions.specs.declared.ends.Progression.{Progression}
use Rattle.progressions.specs.Progressions.{from_to}

abbrev pub moved : ℤ → Progression → Progression
moved d p = record { lo = p.lo +ℤ d; hi = p.hi +ℤ d; step = p.step }

abbrev pub negated : Progression → Progression
negated p = record { lo = neg_ℤ p.hi; hi = neg_ℤ p.lo; step = p.step }

unfoldable pub sums : Progression → Progression → Progression
sums p q = from_to (p.lo +ℤ q.lo) (p.hi +ℤ q.hi) (gcd p.step q.step)

unfoldable pub differences : Progression → Progression → Progression
differences p q = from_to (p.lo -ℤ q.hi) (p.hi -ℤ q.lo) (gcd p.step q.step)

-- the step of the products
abbrev pub product_step : Progression → Progression → ℤ
product_step p q = gcd (gcd (p.lo *ℤ q.step) (q.lo *ℤ p.step)) (p.step *ℤ q.step)

-- from the least to the greatest product of the ends
unfoldable pub products : Progression → Progression → Progression
products p q = from_to
    (int_min (int_min (p.lo *ℤ q.lo) (p.lo *ℤ q.hi)) (int_min (p.hi *ℤ q.lo) (p.hi *ℤ q.hi)))
    (int_max (int_max (p.lo *ℤ q.lo) (p.lo *ℤ q.hi)) (int_max (p.hi *ℤ q.lo) (p.hi *ℤ q.hi)))
    (product_step p q)

unfoldable pub multiples : ℤ → Progression → Progression
multiples d p = from_to (p.lo *ℤ d) (p.hi *ℤ d) (p.step *ℤ d)

-- the step of the quotients
abbrev pub quotient_step : ℤ → ℤ → ℤ
quotient_step d step = if int_le (int_rem_euclid step d) (pos 0) then int_div_euclid step d else pos 1

unfoldable pub quotients : ℤ → Progression → Progression
quotients d p = from_to (int_div_euclid p.lo d) (int_div_euclid p.hi d) (quotient_step d p.step)
