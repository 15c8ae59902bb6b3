-- Division of whole numbers by a number above 0.
--   quotient_and_rest     the quotient rounded down and the rest make up the number
--   rest_range, rest_divides, rest_of   the rest is from 0 to below the divisor, and all but it is a multiple
--   same_rest             numbers that differ by a multiple have one rest
--   divides_at_most, no_rest   a divisor is at most a number above 0; a multiple has no rest
--   quotient_is, quotient_rises, quotient_of_sum   the one quotient; its order; what a multiple adds
use Rattle.std.proofs.Common.{◌≡◌, ℕ, ℤ, pos, negsuc, neg_ℤ, zero, suc, ◌<◌, arith, refl, ◌↔◌}
use Rattle.std.specs.Prelude.{◌+ℤ◌, ◌-ℤ◌, ◌*ℤ◌, ◌≤ℤ◌, ◌<ℤ◌, int_le}
use Rattle.std.specs.Int.{int_rem_euclid, int_div_euclid}
use Rattle.std.proofs.lemmas.Int.{ints}
use Rattle.std.proofs.lemmas.Nat.{div-add-mod', mod_below}
use Rattle.whole_numbers.specs.Numbers.{Divides}
use Rattle.whole_numbers.specs.MultipleLaws.{by_test, sum_times, difference_times, divides_same, divides_difference, only_zero}
use Rattle.whole_numbers.specs.ProductLaws.{times_rising}

-- Euclid's division.

pub quotient_and_rest : (z : ℤ) (d : ℕ) → 0 < d → z ≡ (int_div_euclid z (pos d) *ℤ pos d) +ℤ int_rem_euclid z (pos d)
quotient_and_rest (pos a) d positive = omega (arith, ints, div-add-mod' a d)
quotient_and_rest (negsuc a) d positive = omega (arith, ints, div-add-mod' a d, mod_below a d positive)

pub rest_range : (z : ℤ) (d : ℕ) → 0 < d → (pos 0 ≤ℤ int_rem_euclid z (pos d)) × (int_rem_euclid z (pos d) <ℤ pos d)
rest_range (pos a) d positive = omega (arith, ints, mod_below a d positive)
rest_range (negsuc a) d positive = omega (arith, ints, mod_below a d positive)

pub rest_divides : (z : ℤ) (d : ℕ) → 0 < d → Divides (pos d) (z -ℤ int_rem_euclid z (pos d))
rest_divides z d positive = record { times = int_div_euclid z (pos d); is = omega (arith, ints, quotient_and_rest z d positive) }

-- two numbers with one rest, from their difference
pub same_rest : (x y : ℤ) (d : ℕ) → 0 < d → Divides (pos d) (x -ℤ y)
    → int_rem_euclid x (pos d) ≡ int_rem_euclid y (pos d)
same_rest x y d positive m =
    let r = int_rem_euclid x (pos d) in
    let s = int_rem_euclid y (pos d) in
    let p = rest_range x d positive in
    let q = rest_range y d positive in
    let n : Divides (pos d) (r -ℤ s) =
    divides_same (pos d) ((x -ℤ y) -ℤ ((x -ℤ r) -ℤ (y -ℤ s))) (r -ℤ s) (omega (arith, ints))
    (divides_difference (pos d) (x -ℤ y) ((x -ℤ r) -ℤ (y -ℤ s)) m
    (divides_difference (pos d) (x -ℤ r) (y -ℤ s) (rest_divides x d positive) (rest_divides y d positive))) in
    let z : r -ℤ s ≡ pos 0 = only_zero d (r -ℤ s) n (omega (arith, ints, p.1, q.0)) (omega (arith, ints, p.0, q.1)) in
    omega (arith, ints, z)

at_most : (k : ℤ) (d : ℕ) (z : ℤ) → z ≡ k *ℤ pos d → pos 0 <ℤ z → pos d ≤ℤ z
at_most (pos zero) d z e positive = absurd (omega (arith, ints))
at_most (pos (suc k)) d z e positive = omega (arith, ints)
at_most (negsuc k) d z e positive = absurd (omega (arith, ints))

-- a divisor of a number above 0 is at most that number
pub divides_at_most : (d z : ℤ) → Divides d z → pos 0 <ℤ z → pos 0 ≤ℤ d → d ≤ℤ z
divides_at_most (pos d) z m positive rising = at_most (m.times) d z m.is positive
divides_at_most (negsuc d) z m positive rising = absurd (omega (arith, ints))

-- a multiple leaves no rest
pub no_rest : (z d : ℤ) → pos 0 <ℤ d → Divides d z → int_rem_euclid z d ≡ pos 0
no_rest z (pos d) positive m =
    let above : 0 < d = omega (arith, ints) in
    let r = rest_range z d above in
    let n : Divides (pos d) (int_rem_euclid z (pos d)) = divides_same (pos d) (z -ℤ (z -ℤ int_rem_euclid z (pos d))) (int_rem_euclid z (pos d)) (omega (arith, ints))
    (divides_difference (pos d) z (z -ℤ int_rem_euclid z (pos d)) m (rest_divides z d above)) in
    only_zero d (int_rem_euclid z (pos d)) n r.1 (omega (arith, ints, r.0))
no_rest z (negsuc d) positive m = absurd (omega (arith, ints))

-- Quotients and rests by a number above 0.

pub no_multiple : (k : ℤ) (d : ℕ) → 0 < d → k *ℤ pos d ≡ pos 0 → k ≡ pos 0
no_multiple (pos zero) d positive e = refl
no_multiple (pos (suc k)) d positive e = absurd (omega (arith, ints, e))
no_multiple (negsuc k) d positive e = absurd (omega (arith, ints, e))

-- the quotient is the one with a rest from 0 to below the divisor
pub quotient_is : (x q r : ℤ) (d : ℕ) → 0 < d → x ≡ (q *ℤ pos d) +ℤ r → pos 0 ≤ℤ r → r <ℤ pos d
    → (int_div_euclid x (pos d) ≡ q) × (int_rem_euclid x (pos d) ≡ r)
quotient_is x q r d positive e low high =
    let k = int_div_euclid x (pos d) in
    let s = int_rem_euclid x (pos d) in
    let f = quotient_and_rest x d positive in
    let t = rest_range x d positive in
    let m : Divides (pos d) (r -ℤ s) = record { times = k -ℤ q; is = omega (arith, ints, e, f, difference_times k q (pos d)) } in
    let same : r -ℤ s ≡ pos 0 = only_zero d (r -ℤ s) m (omega (arith, ints, t.0)) (omega (arith, ints, t.1)) in
    let equal : (k -ℤ q) *ℤ pos d ≡ pos 0 = omega (arith, ints, e, f, same, difference_times k q (pos d)) in
    let one : k -ℤ q ≡ pos 0 = no_multiple (k -ℤ q) d positive equal in
    (omega (arith, ints, one), omega (arith, ints, same))

-- a greater number has no lesser quotient
pub quotient_rises : (x y : ℤ) (d : ℕ) → 0 < d → x ≤ℤ y → int_div_euclid x (pos d) ≤ℤ int_div_euclid y (pos d)
quotient_rises x y d positive less = by_test (int_le (int_div_euclid x (pos d)) (int_div_euclid y (pos d)))
    (λ yes_. omega (arith, ints, yes_))
    (λ no_. let k = int_div_euclid x (pos d) in
    let l = int_div_euclid y (pos d) in
    let m = times_rising (l +ℤ pos 1) k (pos d) (omega (arith, ints, no_)) (omega (arith, ints)) in
    absurd (omega (arith, ints, m, sum_times l (pos 1) (pos d), quotient_and_rest x d positive, quotient_and_rest y d positive, rest_range x d positive, rest_range y d positive)))

-- a multiple of d more is so much more of the quotient
pub quotient_of_sum : (x k : ℤ) (d : ℕ) → 0 < d
    → int_div_euclid (x +ℤ (k *ℤ pos d)) (pos d) ≡ int_div_euclid x (pos d) +ℤ k
quotient_of_sum x k d positive = (quotient_is (x +ℤ (k *ℤ pos d)) (int_div_euclid x (pos d) +ℤ k) (int_rem_euclid x (pos d)) d positive
    (omega (arith, ints, quotient_and_rest x d positive, sum_times (int_div_euclid x (pos d)) k (pos d)))
    (rest_range x d positive).0 (rest_range x d positive).1).0

pub zero_quotient : (d : ℕ) → 0 < d → int_div_euclid (pos 0) (pos d) ≡ pos 0
zero_quotient d positive = (quotient_is (pos 0) (pos 0) (pos 0) d positive (omega (arith, ints)) (omega (arith, ints)) (omega (arith, ints))).0

-- the rest by a step above 0
pub rest_of : (z d : ℤ) → pos 0 <ℤ d
    → (pos 0 ≤ℤ int_rem_euclid z d) × (int_rem_euclid z d <ℤ d) × Divides d (z -ℤ int_rem_euclid z d)
rest_of z (pos d) positive =
    let above : 0 < d = omega (arith, ints) in
    let r = rest_range z d above in (r.0, r.1, rest_divides z d above)
rest_of z (negsuc d) positive = absurd (omega (arith, ints))

-- a multiple of d above -d is not negative
pub not_negative : (d z : ℤ) → pos 0 <ℤ d → Divides d z → neg_ℤ d <ℤ z → pos 0 ≤ℤ z
not_negative (pos d) z positive m near = by_test (int_le (pos 0) z)
    (λ yes_. omega (arith, ints, yes_))
    (λ no_. let e : z ≡ pos 0 = only_zero d z m (omega (arith, ints, no_)) near in omega (arith, ints, e))
not_negative (negsuc d) z positive m near = absurd (omega (arith, ints))

-- a number is a multiple exactly where it has no rest
pub rest_tells : (z d : ℤ) → pos 0 <ℤ d → Divides d z ↔ (int_rem_euclid z d ≡ pos 0)
rest_tells z d positive = (no_rest z d positive, λ e. divides_same d (z -ℤ int_rem_euclid z d) z (omega (arith, ints, e)) (rest_of z d positive).2)
