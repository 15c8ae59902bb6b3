-- Laws of images: each has the number that its name says for every number of each operand, and is a progression.
--   negated_has, sums_has, differences_has, products_has, quotients_has, multiples_has
--   negated_is, sums_is, ..
use Rattle.std.proofs.Common.{◌≡◌, ℕ, ℤ, pos, neg_ℤ, ◌<◌, arith, ap, ◌↔◌}
use Rattle.std.specs.Prelude.{◌+ℤ◌, ◌-ℤ◌, ◌*ℤ◌, ◌≤ℤ◌, int_le}
use Rattle.std.specs.Int.{int_rem_euclid, int_div_euclid, int_min, int_max}
use Rattle.std.proofs.lemmas.Int.{ints}
use Rattle.whole_numbers.specs.Numbers.{Divides, gcd}
use Rattle.whole_numbers.specs.MultipleLaws.{by_test, difference_times, times_times, divides_same, divides_sum, divides_difference, divides_through, divides_zero, divides_scaled}
use Rattle.whole_numbers.specs.DivisionLaws.{quotient_and_rest, rest_range, quotient_rises, quotient_of_sum, zero_quotient}
use Rattle.whole_numbers.specs.GcdLaws.{gcd_first, gcd_second}
use Rattle.whole_numbers.specs.ProductLaws.{times_not_negative, times_rising, product_between, scaled_left, difference_of, ring, is_least, is_greatest}
use Rattle.progressions.specs.declared.ends.Progression.{Progression}
use Rattle.progressions.specs.Progressions.{Has, IsProgression}
use Rattle.progressions.specs.Images.{negated, sums, differences, products, product_step, multiples, quotients, quotient_step}
use Rattle.progressions.specs.ProgressionLaws.{is_from_to, has_from_to}

-- The other sign.

pub negated_has : (p : Progression) (n : ℤ) → IsProgression p → Has (negated p) n ↔ Has p (neg_ℤ n)
negated_has p n is = (
  λ h. record { least = omega (arith, ints, h.most); most = omega (arith, ints, h.least); aligned = divides_same p.step ((p.hi -ℤ p.lo) -ℤ (n -ℤ neg_ℤ p.hi)) (neg_ℤ n -ℤ p.lo) (omega (arith, ints)) (divides_difference p.step (p.hi -ℤ p.lo) (n -ℤ neg_ℤ p.hi) is.aligned h.aligned) },
  λ h. record { least = omega (arith, ints, h.most); most = omega (arith, ints, h.least); aligned = divides_same p.step ((p.hi -ℤ p.lo) -ℤ (neg_ℤ n -ℤ p.lo)) (n -ℤ neg_ℤ p.hi) (omega (arith, ints)) (divides_difference p.step (p.hi -ℤ p.lo) (neg_ℤ n -ℤ p.lo) is.aligned h.aligned) },
)

pub negated_is : (p : Progression) → IsProgression p → IsProgression (negated p)
negated_is p is = record {
  order = omega (arith, ints, is.order);
  rising = is.rising;
  aligned = divides_same p.step (p.hi -ℤ p.lo) (neg_ℤ p.lo -ℤ neg_ℤ p.hi) (omega (arith, ints)) is.aligned;
  lone = λ e. is.lone (omega (arith, ints, e));
}

-- Sums and differences.

sums_aligned : (p q : Progression) (n m : ℤ) → Divides p.step (n -ℤ p.lo) → Divides q.step (m -ℤ q.lo)
    → Divides (gcd p.step q.step) ((n +ℤ m) -ℤ (p.lo +ℤ q.lo))
sums_aligned p q n m h i =
    let g = gcd p.step q.step in
    let x = divides_through g p.step (n -ℤ p.lo) (gcd_first p.step q.step) h in
    let y = divides_through g q.step (m -ℤ q.lo) (gcd_second p.step q.step) i in
    divides_same g ((n -ℤ p.lo) +ℤ (m -ℤ q.lo)) ((n +ℤ m) -ℤ (p.lo +ℤ q.lo)) (omega (arith, ints)) (divides_sum g (n -ℤ p.lo) (m -ℤ q.lo) x y)

pub sums_has : (p q : Progression) (n m : ℤ) → Has p n → Has q m → Has (sums p q) (n +ℤ m)
unfolding sums
sums_has p q n m h i = has_from_to (p.lo +ℤ q.lo) (p.hi +ℤ q.hi) (gcd p.step q.step) (n +ℤ m)
    (omega (arith, ints, h.least, i.least)) (omega (arith, ints, h.most, i.most)) (sums_aligned p q n m h.aligned i.aligned)

pub sums_is : (p q : Progression) → IsProgression p → IsProgression q → IsProgression (sums p q)
unfolding sums
sums_is p q r s = is_from_to (p.lo +ℤ q.lo) (p.hi +ℤ q.hi) (gcd p.step q.step)
    (omega (arith, ints, r.order, s.order)) (omega (arith, ints)) (sums_aligned p q p.hi q.hi r.aligned s.aligned)

-- numbers from the high end of the second down
differences_aligned : (p q : Progression) (n m : ℤ) → IsProgression q → Divides p.step (n -ℤ p.lo)
    → Divides q.step (m -ℤ q.lo) → Divides (gcd p.step q.step) ((n -ℤ m) -ℤ (p.lo -ℤ q.hi))
differences_aligned p q n m s h i =
    let g = gcd p.step q.step in
    let x = divides_through g p.step (n -ℤ p.lo) (gcd_first p.step q.step) h in
    let j : Divides q.step (q.hi -ℤ m) = divides_same q.step ((q.hi -ℤ q.lo) -ℤ (m -ℤ q.lo)) (q.hi -ℤ m) (omega (arith, ints)) (divides_difference q.step (q.hi -ℤ q.lo) (m -ℤ q.lo) s.aligned i) in
    let y = divides_through g q.step (q.hi -ℤ m) (gcd_second p.step q.step) j in
    divides_same g ((n -ℤ p.lo) +ℤ (q.hi -ℤ m)) ((n -ℤ m) -ℤ (p.lo -ℤ q.hi)) (omega (arith, ints)) (divides_sum g (n -ℤ p.lo) (q.hi -ℤ m) x y)

pub differences_has : (p q : Progression) (n m : ℤ) → IsProgression q → Has p n → Has q m
    → Has (differences p q) (n -ℤ m)
unfolding differences
differences_has p q n m s h i = has_from_to (p.lo -ℤ q.hi) (p.hi -ℤ q.lo) (gcd p.step q.step) (n -ℤ m)
    (omega (arith, ints, h.least, i.most)) (omega (arith, ints, h.most, i.least)) (differences_aligned p q n m s h.aligned i.aligned)

-- the low end of the second is one of its numbers
low_aligned : (q : Progression) → Divides q.step (q.lo -ℤ q.lo)
low_aligned q = divides_same q.step (pos 0) (q.lo -ℤ q.lo) (omega (arith, ints)) (divides_zero q.step)

pub differences_is : (p q : Progression) → IsProgression p → IsProgression q → IsProgression (differences p q)
unfolding differences
differences_is p q r s = is_from_to (p.lo -ℤ q.hi) (p.hi -ℤ q.lo) (gcd p.step q.step)
    (omega (arith, ints, r.order, s.order)) (omega (arith, ints)) (differences_aligned p q p.hi q.lo s r.aligned (low_aligned q))

-- Products.

product_aligned : (p q : Progression) (n m : ℤ) → Divides p.step (n -ℤ p.lo) → Divides q.step (m -ℤ q.lo)
    → Divides (product_step p q) ((n *ℤ m) -ℤ (p.lo *ℤ q.lo))
product_aligned p q n m i j =
    let g = product_step p q in
    let first = gcd (p.lo *ℤ q.step) (q.lo *ℤ p.step) in
    let x = divides_through g first (p.lo *ℤ q.step) (gcd_first first (p.step *ℤ q.step)) (gcd_first (p.lo *ℤ q.step) (q.lo *ℤ p.step)) in
    let y = divides_through g first (q.lo *ℤ p.step) (gcd_first first (p.step *ℤ q.step)) (gcd_second (p.lo *ℤ q.step) (q.lo *ℤ p.step)) in
    let z = gcd_second first (p.step *ℤ q.step) in
    let a : Divides g (p.lo *ℤ (m -ℤ q.lo)) = divides_through g (p.lo *ℤ q.step) (p.lo *ℤ (m -ℤ q.lo)) x (scaled_left p.lo q.step (m -ℤ q.lo) j) in
    let b : Divides g (q.lo *ℤ (n -ℤ p.lo)) = divides_through g (q.lo *ℤ p.step) (q.lo *ℤ (n -ℤ p.lo)) y (scaled_left q.lo p.step (n -ℤ p.lo) i) in
    let c : Divides g ((n -ℤ p.lo) *ℤ (m -ℤ q.lo)) = divides_through g (p.step *ℤ q.step) ((n -ℤ p.lo) *ℤ (m -ℤ q.lo)) z
    (divides_through (p.step *ℤ q.step) ((n -ℤ p.lo) *ℤ q.step) ((n -ℤ p.lo) *ℤ (m -ℤ q.lo)) (divides_scaled q.step p.step (n -ℤ p.lo) i) (scaled_left (n -ℤ p.lo) q.step (m -ℤ q.lo) j)) in
    divides_same g (((n -ℤ p.lo) *ℤ (m -ℤ q.lo)) +ℤ ((p.lo *ℤ (m -ℤ q.lo)) +ℤ (q.lo *ℤ (n -ℤ p.lo)))) ((n *ℤ m) -ℤ (p.lo *ℤ q.lo))
    (ring n m p.lo q.lo)
    (divides_sum g ((n -ℤ p.lo) *ℤ (m -ℤ q.lo)) ((p.lo *ℤ (m -ℤ q.lo)) +ℤ (q.lo *ℤ (n -ℤ p.lo))) c
    (divides_sum g (p.lo *ℤ (m -ℤ q.lo)) (q.lo *ℤ (n -ℤ p.lo)) a b))

-- the ends are products of numbers, so they are aligned
product_ends : (p q : Progression) → IsProgression p → IsProgression q
    → Divides (product_step p q) (int_min (int_min (p.lo *ℤ q.lo) (p.lo *ℤ q.hi)) (int_min (p.hi *ℤ q.lo) (p.hi *ℤ q.hi)) -ℤ (p.lo *ℤ q.lo))
    × Divides (product_step p q) (int_max (int_max (p.lo *ℤ q.lo) (p.lo *ℤ q.hi)) (int_max (p.hi *ℤ q.lo) (p.hi *ℤ q.hi)) -ℤ (p.lo *ℤ q.lo))
product_ends p q r s =
    let P : ℤ → Type 0 = λ z. Divides (product_step p q) (z -ℤ (p.lo *ℤ q.lo)) in
    let zero_p : Divides p.step (p.lo -ℤ p.lo) = divides_same p.step (pos 0) (p.lo -ℤ p.lo) (omega (arith, ints)) (divides_zero p.step) in
    let zero_q : Divides q.step (q.lo -ℤ q.lo) = divides_same q.step (pos 0) (q.lo -ℤ q.lo) (omega (arith, ints)) (divides_zero q.step) in
    let a = product_aligned p q p.lo q.lo zero_p zero_q in
    let b = product_aligned p q p.lo q.hi zero_p s.aligned in
    let c = product_aligned p q p.hi q.lo r.aligned zero_q in
    let d = product_aligned p q p.hi q.hi r.aligned s.aligned in (
      is_least P (int_min (p.lo *ℤ q.lo) (p.lo *ℤ q.hi)) (int_min (p.hi *ℤ q.lo) (p.hi *ℤ q.hi)) (is_least P (p.lo *ℤ q.lo) (p.lo *ℤ q.hi) a b) (is_least P (p.hi *ℤ q.lo) (p.hi *ℤ q.hi) c d),
      is_greatest P (int_max (p.lo *ℤ q.lo) (p.lo *ℤ q.hi)) (int_max (p.hi *ℤ q.lo) (p.hi *ℤ q.hi)) (is_greatest P (p.lo *ℤ q.lo) (p.lo *ℤ q.hi) a b) (is_greatest P (p.hi *ℤ q.lo) (p.hi *ℤ q.hi) c d),
    )

pub products_has : (p q : Progression) (n m : ℤ) → IsProgression p → IsProgression q → Has p n → Has q m
    → Has (products p q) (n *ℤ m)
unfolding products
products_has p q n m r s h k =
    let e = product_ends p q r s in
    let b = product_between p.lo p.hi q.lo q.hi n m h.least h.most k.least k.most in
    has_from_to
    (int_min (int_min (p.lo *ℤ q.lo) (p.lo *ℤ q.hi)) (int_min (p.hi *ℤ q.lo) (p.hi *ℤ q.hi)))
    (int_max (int_max (p.lo *ℤ q.lo) (p.lo *ℤ q.hi)) (int_max (p.hi *ℤ q.lo) (p.hi *ℤ q.hi)))
    (product_step p q) (n *ℤ m) b.0 b.1
    (difference_of (product_step p q) (p.lo *ℤ q.lo) (n *ℤ m) (int_min (int_min (p.lo *ℤ q.lo) (p.lo *ℤ q.hi)) (int_min (p.hi *ℤ q.lo) (p.hi *ℤ q.hi))) (product_aligned p q n m h.aligned k.aligned) e.0)

pub products_is : (p q : Progression) → IsProgression p → IsProgression q → IsProgression (products p q)
unfolding products
products_is p q r s =
    let e = product_ends p q r s in
    let lo = int_min (int_min (p.lo *ℤ q.lo) (p.lo *ℤ q.hi)) (int_min (p.hi *ℤ q.lo) (p.hi *ℤ q.hi)) in
    let hi = int_max (int_max (p.lo *ℤ q.lo) (p.lo *ℤ q.hi)) (int_max (p.hi *ℤ q.lo) (p.hi *ℤ q.hi)) in
    let b = product_between p.lo p.hi q.lo q.hi p.lo q.lo (omega (arith, ints)) r.order (omega (arith, ints)) s.order in
    let order : lo ≤ℤ hi = omega (arith, ints, b.0, b.1) in
    is_from_to lo hi (product_step p q) order (omega (arith, ints)) (difference_of (product_step p q) (p.lo *ℤ q.lo) hi lo e.1 e.0)

-- Quotients.

down_aligned : (d : ℕ) (p : Progression) (n : ℤ) → 0 < d → Divides p.step (n -ℤ p.lo)
    → Divides (quotient_step (pos d) p.step) (int_div_euclid n (pos d) -ℤ int_div_euclid p.lo (pos d))
down_aligned d p n positive m = by_test (int_le (int_rem_euclid p.step (pos d)) (pos 0))
    (λ even. rw even (let s = int_div_euclid p.step (pos d) in
    let step : p.step ≡ s *ℤ pos d = omega (arith, ints, even, quotient_and_rest p.step d positive, rest_range p.step d positive) in
    let there : n ≡ p.lo +ℤ ((m.times *ℤ s) *ℤ pos d) = omega (arith, ints, m.is, ap (λ (t : ℤ). m.times *ℤ t) step, times_times m.times s (pos d)) in
    record { times = m.times; is = omega (arith, ints, ap (λ (t : ℤ). int_div_euclid t (pos d)) there, quotient_of_sum p.lo (m.times *ℤ s) d positive) }))
    (λ odd. rw odd (record { times = int_div_euclid n (pos d) -ℤ int_div_euclid p.lo (pos d); is = omega (arith, ints) }))

down_rising : (d : ℕ) (p : Progression) → 0 < d → pos 0 ≤ℤ p.step → pos 0 ≤ℤ quotient_step (pos d) p.step
down_rising d p positive rising = by_test (int_le (int_rem_euclid p.step (pos d)) (pos 0))
    (λ even. rw even (omega (arith, ints, quotient_rises (pos 0) p.step d positive rising, zero_quotient d positive)))
    (λ odd. rw odd (omega (arith, ints)))

pub quotients_has : (d : ℕ) (p : Progression) (n : ℤ) → 0 < d → Has p n
    → Has (quotients (pos d) p) (int_div_euclid n (pos d))
unfolding quotients
quotients_has d p n positive h = has_from_to (int_div_euclid p.lo (pos d)) (int_div_euclid p.hi (pos d)) (quotient_step (pos d) p.step) (int_div_euclid n (pos d))
    (quotient_rises p.lo n d positive h.least) (quotient_rises n p.hi d positive h.most) (down_aligned d p n positive h.aligned)

pub quotients_is : (d : ℕ) (p : Progression) → 0 < d → IsProgression p → IsProgression (quotients (pos d) p)
unfolding quotients
quotients_is d p positive r = is_from_to (int_div_euclid p.lo (pos d)) (int_div_euclid p.hi (pos d)) (quotient_step (pos d) p.step)
    (quotient_rises p.lo p.hi d positive r.order) (down_rising d p positive r.rising) (down_aligned d p p.hi positive r.aligned)

-- Multiples.

pub multiples_has : (d : ℕ) (p : Progression) (n : ℤ) → Has p n → Has (multiples (pos d) p) (n *ℤ pos d)
unfolding multiples
multiples_has d p n h = has_from_to (p.lo *ℤ pos d) (p.hi *ℤ pos d) (p.step *ℤ pos d) (n *ℤ pos d)
    (times_rising p.lo n (pos d) h.least (omega (arith, ints))) (times_rising n p.hi (pos d) h.most (omega (arith, ints)))
    (divides_same (p.step *ℤ pos d) ((n -ℤ p.lo) *ℤ pos d) ((n *ℤ pos d) -ℤ (p.lo *ℤ pos d)) (difference_times n p.lo (pos d)) (divides_scaled (pos d) p.step (n -ℤ p.lo) h.aligned))

pub multiples_is : (d : ℕ) (p : Progression) → IsProgression p → IsProgression (multiples (pos d) p)
unfolding multiples
multiples_is d p r = is_from_to (p.lo *ℤ pos d) (p.hi *ℤ pos d) (p.step *ℤ pos d)
    (times_rising p.lo p.hi (pos d) r.order (omega (arith, ints))) (times_not_negative p.step (pos d) r.rising (omega (arith, ints)))
    (divides_same (p.step *ℤ pos d) ((p.hi -ℤ p.lo) *ℤ pos d) ((p.hi *ℤ pos d) -ℤ (p.lo *ℤ pos d)) (difference_times p.hi p.lo (pos d)) (divides_scaled (pos d) p.step (p.hi -ℤ p.lo) r.aligned))
