-- What operators give at pieces, each by the letter of its rule.
--   span lo hi             all numbers from lo to hi
--   above d p q            the numbers of p above those of q, which are below d
--   ratios p q             quotients rounded down, the ends of the divisor raised to 1
--   toward_zero d p        quotients by d, rounded toward 0
--   rests d p              rests by d: of the ends where they have one quotient, else all
--   signed_rests e p       rests with the sign of the number, by a divisor of size e
--   lesser p q, greater p q   the lesser and the greater of two numbers
use Rattle.std.specs.Prelude.{ℤ, pos, ◌+ℤ◌, ◌-ℤ◌, ◌*ℤ◌, int_le, int_lt, int_div, if◌then◌else◌}
use Rattle.std.specs.Int.{int_rem_euclid, int_div_euclid, int_min, int_max}
use Rattle.whole_numbers.specs.Numbers.{gcd}
use Rattle.progressions.specs.declared.ends.Progression.{Progression}
use Rattle.progressions.specs.Progressions.{from_to}

abbrev pub span : ℤ → ℤ → Progression
span lo hi = from_to lo hi (pos 1)

unfoldable pub above : ℤ → Progression → Progression → Progression
above d p q = from_to ((p.lo *ℤ d) +ℤ q.lo) ((p.hi *ℤ d) +ℤ q.hi) (gcd (p.step *ℤ d) q.step)

unfoldable pub ratios : Progression → Progression → Progression
ratios p q = span (int_div_euclid p.lo (int_max q.hi (pos 1))) (int_div_euclid p.hi (int_max q.lo (pos 1)))

unfoldable pub toward_zero : ℤ → Progression → Progression
toward_zero d p = span (int_min (int_div p.lo d) (int_div p.hi d)) (int_max (int_div p.lo d) (int_div p.hi d))

unfoldable pub rests : ℤ → Progression → Progression
rests d p = if int_le (int_div_euclid p.hi d) (int_div_euclid p.lo d)
    then from_to (int_rem_euclid p.lo d) (int_rem_euclid p.hi d) p.step
    else span (pos 0) (d -ℤ pos 1)

-- the least and the greatest rest of numbers from lo on, up to hi
abbrev pub least_rest : ℤ → ℤ → ℤ
least_rest e lo = if int_lt lo (pos 0) then int_max lo (pos 1 -ℤ e) else pos 0

abbrev pub greatest_rest : ℤ → ℤ → ℤ
greatest_rest e hi = if int_lt (pos 0) hi then int_min hi (e -ℤ pos 1) else pos 0

unfoldable pub signed_rests : ℤ → Progression → Progression
signed_rests e p = span (least_rest e p.lo) (greatest_rest e p.hi)

unfoldable pub lesser : Progression → Progression → Progression
lesser p q = span (int_min p.lo q.lo) (int_min p.hi q.hi)

unfoldable pub greater : Progression → Progression → Progression
greater p q = span (int_max p.lo q.lo) (int_max p.hi q.hi)
