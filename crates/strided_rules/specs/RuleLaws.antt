-- What each rule gives has the operator's number, and is a progression.
--   span_has, span_is                 all numbers between two
--   rests_.., above_.., ratios_.., toward_zero_.., signed_rests_.., lesser_.., greater_..   of each rule
use Rattle.std.proofs.Common.{◌≡◌, ◌≢◌, ℕ, ℤ, pos, negsuc, neg_ℤ, suc, ◌<◌, ◌≤◌, ◌/◌, arith, ap, true}
use Rattle.std.specs.Prelude.{◌+ℤ◌, ◌-ℤ◌, ◌*ℤ◌, ◌≤ℤ◌, int_le, int_lt, int_div, int_rem, unsigned_abs}
use Rattle.std.specs.Int.{int_rem_euclid, int_div_euclid, int_min, int_max}
use Rattle.std.proofs.lemmas.Int.{ints, clamps, quot-rem}
use Rattle.std.proofs.lemmas.Nat.{mod_below}
use Rattle.std.proofs.Math.IntN.{*ℤ_comm}
use Rattle.std.proofs.Math.Nat.{mod-le}
use Rattle.whole_numbers.specs.Numbers.{Divides, gcd}
use Rattle.whole_numbers.specs.MultipleLaws.{by_test, sum_times, difference_times, divides_same, divides_sum, divides_through, divides_scaled}
use Rattle.whole_numbers.specs.ProductLaws.{times_rising}
use Rattle.whole_numbers.specs.DivisionLaws.{quotient_and_rest, rest_range, quotient_rises, zero_quotient}
use Rattle.whole_numbers.specs.GcdLaws.{gcd_first, gcd_second}
use Rattle.progressions.specs.declared.ends.Progression.{Progression}
use Rattle.progressions.specs.Progressions.{Has, IsProgression}
use Rattle.progressions.specs.ProgressionLaws.{is_from_to, has_from_to}
use Rattle.strided_rules.specs.Rules.{span, above, ratios, toward_zero, rests, least_rest, greatest_rest, signed_rests, lesser, greater}

-- All numbers between two.

pub span_has : (lo hi n : ℤ) → lo ≤ℤ n → n ≤ℤ hi → Has (span lo hi) n
span_has lo hi n least most = has_from_to lo hi (pos 1) n least most (record { times = n -ℤ lo; is = omega (arith, ints) })

pub span_is : (lo hi : ℤ) → lo ≤ℤ hi → IsProgression (span lo hi)
span_is lo hi order = is_from_to lo hi (pos 1) order (omega (arith, ints)) (record { times = hi -ℤ lo; is = omega (arith, ints) })

-- Rests.

-- between two numbers of one quotient all have that quotient
one_quotient : (d : ℕ) (p : Progression) (n : ℤ) → 0 < d
    → int_le (int_div_euclid p.hi (pos d)) (int_div_euclid p.lo (pos d)) ≡ true → p.lo ≤ℤ n → n ≤ℤ p.hi
    → n -ℤ int_rem_euclid n (pos d) ≡ p.lo -ℤ int_rem_euclid p.lo (pos d)
one_quotient d p n positive one least most =
    let same : int_div_euclid n (pos d) ≡ int_div_euclid p.lo (pos d) = omega (arith, ints, one, quotient_rises p.lo n d positive least, quotient_rises n p.hi d positive most) in
    omega (arith, ints, quotient_and_rest n d positive, quotient_and_rest p.lo d positive, ap (λ (t : ℤ). t *ℤ pos d) same)

pub rests_has : (d : ℕ) (p : Progression) (n : ℤ) → 0 < d → Has p n → Has (rests (pos d) p) (int_rem_euclid n (pos d))
unfolding rests
rests_has d p n positive h = by_test (int_le (int_div_euclid p.hi (pos d)) (int_div_euclid p.lo (pos d)))
    (λ one. let e = one_quotient d p n positive one h.least h.most in
    let f = one_quotient d p p.hi positive one (omega (arith, ints, h.least, h.most)) (omega (arith, ints)) in
    rw one (has_from_to (int_rem_euclid p.lo (pos d)) (int_rem_euclid p.hi (pos d)) p.step (int_rem_euclid n (pos d)) (omega (arith, ints, e, h.least)) (omega (arith, ints, e, f, h.most))
    (divides_same p.step (n -ℤ p.lo) (int_rem_euclid n (pos d) -ℤ int_rem_euclid p.lo (pos d)) (omega (arith, ints, e)) h.aligned)))
    (λ more. let r = rest_range n d positive in rw more (has_from_to (pos 0) (pos d -ℤ pos 1) (pos 1) (int_rem_euclid n (pos d)) r.0 (omega (arith, ints, r.1))
    (record { times = int_rem_euclid n (pos d) -ℤ pos 0; is = omega (arith, ints) })))

pub rests_is : (d : ℕ) (p : Progression) → 0 < d → IsProgression p → IsProgression (rests (pos d) p)
unfolding rests
rests_is d p positive r = by_test (int_le (int_div_euclid p.hi (pos d)) (int_div_euclid p.lo (pos d)))
    (λ one. let f = one_quotient d p p.hi positive one r.order (omega (arith, ints)) in
    rw one (is_from_to (int_rem_euclid p.lo (pos d)) (int_rem_euclid p.hi (pos d)) p.step (omega (arith, ints, f, r.order)) r.rising
    (divides_same p.step (p.hi -ℤ p.lo) (int_rem_euclid p.hi (pos d) -ℤ int_rem_euclid p.lo (pos d)) (omega (arith, ints, f)) r.aligned)))
    (λ more. rw more (is_from_to (pos 0) (pos d -ℤ pos 1) (pos 1) (omega (arith, ints)) (omega (arith, ints)) (record { times = (pos d -ℤ pos 1) -ℤ pos 0; is = omega (arith, ints) })))

-- Words above words.

above_aligned : (d : ℕ) (p q : Progression) (n m : ℤ) → Divides p.step (n -ℤ p.lo) → Divides q.step (m -ℤ q.lo)
    → Divides (gcd (p.step *ℤ pos d) q.step) (((n *ℤ pos d) +ℤ m) -ℤ ((p.lo *ℤ pos d) +ℤ q.lo))
above_aligned d p q n m i j =
    let g = gcd (p.step *ℤ pos d) q.step in
    let x = divides_through g (p.step *ℤ pos d) ((n -ℤ p.lo) *ℤ pos d) (gcd_first (p.step *ℤ pos d) q.step) (divides_scaled (pos d) p.step (n -ℤ p.lo) i) in
    let y = divides_through g q.step (m -ℤ q.lo) (gcd_second (p.step *ℤ pos d) q.step) j in
    divides_same g (((n -ℤ p.lo) *ℤ pos d) +ℤ (m -ℤ q.lo)) (((n *ℤ pos d) +ℤ m) -ℤ ((p.lo *ℤ pos d) +ℤ q.lo)) (omega (arith, ints, difference_times n p.lo (pos d)))
    (divides_sum g ((n -ℤ p.lo) *ℤ pos d) (m -ℤ q.lo) x y)

pub above_has : (d : ℕ) (p q : Progression) (n m : ℤ) → Has p n → Has q m → Has (above (pos d) p q) ((n *ℤ pos d) +ℤ m)
unfolding above
above_has d p q n m h k = has_from_to ((p.lo *ℤ pos d) +ℤ q.lo) ((p.hi *ℤ pos d) +ℤ q.hi) (gcd (p.step *ℤ pos d) q.step) ((n *ℤ pos d) +ℤ m)
    (omega (arith, ints, times_rising p.lo n (pos d) h.least (omega (arith, ints)), k.least)) (omega (arith, ints, times_rising n p.hi (pos d) h.most (omega (arith, ints)), k.most))
    (above_aligned d p q n m h.aligned k.aligned)

pub above_is : (d : ℕ) (p q : Progression) → IsProgression p → IsProgression q → IsProgression (above (pos d) p q)
unfolding above
above_is d p q r s = is_from_to ((p.lo *ℤ pos d) +ℤ q.lo) ((p.hi *ℤ pos d) +ℤ q.hi) (gcd (p.step *ℤ pos d) q.step)
    (omega (arith, ints, times_rising p.lo p.hi (pos d) r.order (omega (arith, ints)), s.order)) (omega (arith, ints)) (above_aligned d p q p.hi q.hi r.aligned s.aligned)

-- Quotients by a number of a progression.

-- by a greater divisor there is no greater quotient
falls : (n : ℤ) (d e : ℕ) → 0 < d → d ≤ e → pos 0 ≤ℤ n → int_div_euclid n (pos e) ≤ℤ int_div_euclid n (pos d)
falls n d e positive less rising = by_test (int_le (int_div_euclid n (pos e)) (int_div_euclid n (pos d)))
    (λ yes_. omega (arith, ints, yes_))
    (λ no_. let k = int_div_euclid n (pos e) in
    let l = int_div_euclid n (pos d) in
    let bottom = zero_quotient e (omega (arith, positive, less)) in
    let up = quotient_rises (pos 0) n e (omega (arith, positive, less)) rising in
    let a = times_rising (l +ℤ pos 1) k (pos d) (omega (arith, ints, no_)) (omega (arith, ints)) in
    let b = times_rising (pos d) (pos e) k (omega (arith, ints, less)) (omega (arith, ints, up, bottom)) in
    absurd (omega (
      arith,
      ints,
      a,
      b,
      *ℤ_comm (pos d) k,
      *ℤ_comm (pos e) k,
      sum_times l (pos 1) (pos d),
      quotient_and_rest n d positive,
      quotient_and_rest n e (omega (arith, positive, less)),
      rest_range n d positive,
      rest_range n e (omega (arith, positive, less)),
    )))

-- the same by whole numbers from 1 on
quotient_falls : (n d e : ℤ) → pos 1 ≤ℤ d → d ≤ℤ e → pos 0 ≤ℤ n → int_div_euclid n e ≤ℤ int_div_euclid n d
quotient_falls n (pos d) (pos e) positive less rising = falls n d e (omega (arith, ints, positive)) (omega (arith, ints, less)) rising
quotient_falls n (pos d) (negsuc e) positive less rising = absurd (omega (arith, ints, positive, less))
quotient_falls n (negsuc d) e positive less rising = absurd (omega (arith, ints, positive))

quotient_up : (x y d : ℤ) → pos 1 ≤ℤ d → x ≤ℤ y → int_div_euclid x d ≤ℤ int_div_euclid y d
quotient_up x y (pos d) positive less = quotient_rises x y d (omega (arith, ints, positive)) less
quotient_up x y (negsuc d) positive less = absurd (omega (arith, ints, positive))

pub ratios_has : (p q : Progression) (n m : ℤ) → pos 0 ≤ℤ p.lo → pos 1 ≤ℤ m → Has p n → Has q m
    → Has (ratios p q) (int_div_euclid n m)
unfolding ratios
ratios_has p q n m low positive h k =
    let top = int_max q.hi (pos 1) in
    let bottom = int_max q.lo (pos 1) in
    let a = quotient_falls p.lo m top positive (omega (arith, ints, clamps, k.most)) low in
    let b = quotient_up p.lo n m positive h.least in
    let c = quotient_up n p.hi m positive h.most in
    let d = quotient_falls p.hi bottom m (omega (arith, ints, clamps)) (omega (arith, ints, clamps, k.least, positive)) (omega (arith, ints, low, h.least, h.most)) in
    span_has (int_div_euclid p.lo top) (int_div_euclid p.hi bottom) (int_div_euclid n m) (omega (arith, ints, a, b)) (omega (arith, ints, c, d))

pub ratios_is : (p q : Progression) → pos 0 ≤ℤ p.lo → IsProgression p → IsProgression q → IsProgression (ratios p q)
unfolding ratios
ratios_is p q low r s =
    let top = int_max q.hi (pos 1) in
    let bottom = int_max q.lo (pos 1) in
    let a = quotient_up p.lo p.hi top (omega (arith, ints, clamps)) r.order in
    let b = quotient_falls p.hi bottom top (omega (arith, ints, clamps)) (omega (arith, ints, clamps, s.order)) (omega (arith, ints, low, r.order)) in
    span_is (int_div_euclid p.lo top) (int_div_euclid p.hi bottom) (omega (arith, ints, a, b))

-- Quotients toward 0.

nat_rises : (a b d : ℕ) → 0 < d → a ≤ b → a / d ≤ b / d
nat_rises a b d positive less = omega (arith, ints, quotient_rises (pos a) (pos b) d positive (omega (arith, ints, less)))

up_toward_zero : (x y : ℤ) (d : ℕ) → 0 < d → x ≤ℤ y → int_div x (pos d) ≤ℤ int_div y (pos d)
up_toward_zero (pos a) (pos b) d positive less = omega (arith, ints, nat_rises a b d positive (omega (arith, ints, less)))
up_toward_zero (pos a) (negsuc b) d positive less = absurd (omega (arith, ints, less))
up_toward_zero (negsuc a) (pos b) d positive less = omega (arith, ints)
up_toward_zero (negsuc a) (negsuc b) d positive less = omega (arith, ints, nat_rises (suc b) (suc a) d positive (omega (arith, ints, less)))

turned : (x : ℤ) (d : ℕ) → int_div x (negsuc d) ≡ neg_ℤ (int_div x (pos (suc d)))
turned (pos a) d = omega (arith, ints)
turned (negsuc a) d = omega (arith, ints)

between_quotients : (x n y d : ℤ) → unsigned_abs d ≢ 0 → x ≤ℤ n → n ≤ℤ y
    → (int_min (int_div x d) (int_div y d) ≤ℤ int_div n d) × (int_div n d ≤ℤ int_max (int_div x d) (int_div y d))
between_quotients x n y (pos d) some less more =
    let a = up_toward_zero x n d (omega (arith, some)) less in
    let b = up_toward_zero n y d (omega (arith, some)) more in
    (omega (arith, ints, clamps, a, b), omega (arith, ints, clamps, a, b))
between_quotients x n y (negsuc d) some less more =
    let a = up_toward_zero x n (suc d) (omega arith) less in
    let b = up_toward_zero n y (suc d) (omega arith) more in
    (omega (arith, ints, clamps, a, b, turned x d, turned n d, turned y d), omega (arith, ints, clamps, a, b, turned x d, turned n d, turned y d))

pub toward_zero_has : (d : ℤ) (p : Progression) (n : ℤ) → unsigned_abs d ≢ 0 → Has p n
    → Has (toward_zero d p) (int_div n d)
unfolding toward_zero
toward_zero_has d p n some h =
    let b = between_quotients p.lo n p.hi d some h.least h.most in
    span_has (int_min (int_div p.lo d) (int_div p.hi d)) (int_max (int_div p.lo d) (int_div p.hi d)) (int_div n d) b.0 b.1

pub toward_zero_is : (d : ℤ) (p : Progression) → IsProgression (toward_zero d p)
unfolding toward_zero
toward_zero_is d p = span_is (int_min (int_div p.lo d) (int_div p.hi d)) (int_max (int_div p.lo d) (int_div p.hi d)) (omega (arith, ints, clamps))

-- Rests with a sign.

-- what the quotient toward 0 leaves
pub left_over : ℤ → ℤ → ℤ
left_over n d = n -ℤ (d *ℤ int_div n d)

left_is_rest : (n d : ℤ) → left_over n d ≡ int_rem n d
unfolding left_over
left_is_rest n d = omega (arith, ints, quot-rem n d, *ℤ_comm d (int_div n d))

left_range : (lo n hi d : ℤ) → unsigned_abs d ≢ 0 → lo ≤ℤ n → n ≤ℤ hi
    → (least_rest (pos (unsigned_abs d)) lo ≤ℤ int_rem n d) × (int_rem n d ≤ℤ greatest_rest (pos (unsigned_abs d)) hi)
left_range lo (pos a) hi d some less more =
    let r = mod_below a (unsigned_abs d) (omega (arith, some)) in
    let s = mod-le a (unsigned_abs d) in (
      by_test (int_lt lo (pos 0)) (λ e. rw e (omega (arith, ints, clamps, e, some))) (λ e. rw e (omega (arith, ints))),
      by_test (int_lt (pos 0) hi) (λ e. rw e (omega (arith, ints, clamps, r, s, more))) (λ e. rw e (omega (arith, ints, e, s, more))),
    )
left_range lo (negsuc a) hi d some less more =
    let r = mod_below (suc a) (unsigned_abs d) (omega (arith, some)) in
    let s = mod-le (suc a) (unsigned_abs d) in (
      by_test (int_lt lo (pos 0)) (λ e. rw e (omega (arith, ints, clamps, r, s, less))) (λ e. rw e (omega (arith, ints, e, less))),
      by_test (int_lt (pos 0) hi) (λ e. rw e (omega (arith, ints, clamps, e, some))) (λ e. rw e (omega (arith, ints))),
    )

pub signed_rests_has : (d : ℤ) (p : Progression) (n : ℤ) → unsigned_abs d ≢ 0 → Has p n
    → Has (signed_rests (pos (unsigned_abs d)) p) (n -ℤ (d *ℤ int_div n d))
unfolding signed_rests left_over
signed_rests_has d p n some h =
    let r = left_range p.lo n p.hi d some h.least h.most in
    let e = left_is_rest n d in
    rw e (span_has (least_rest (pos (unsigned_abs d)) p.lo) (greatest_rest (pos (unsigned_abs d)) p.hi) (int_rem n d) r.0 r.1)

pub signed_rests_is : (d : ℤ) (p : Progression) → unsigned_abs d ≢ 0
    → IsProgression (signed_rests (pos (unsigned_abs d)) p)
unfolding signed_rests
signed_rests_is d p some =
    let e = unsigned_abs d in
    let a : least_rest (pos e) p.lo ≤ℤ pos 0 = by_test (int_lt p.lo (pos 0)) (λ t. rw t (omega (arith, ints, clamps, t, some))) (λ t. rw t (omega (arith, ints))) in
    let b : pos 0 ≤ℤ greatest_rest (pos e) p.hi = by_test (int_lt (pos 0) p.hi) (λ t. rw t (omega (arith, ints, clamps, t, some))) (λ t. rw t (omega (arith, ints))) in
    span_is (least_rest (pos e) p.lo) (greatest_rest (pos e) p.hi) (omega (arith, ints, a, b))

-- The lesser and the greater.

pub lesser_has : (p q : Progression) (n m : ℤ) → Has p n → Has q m → Has (lesser p q) (int_min n m)
unfolding lesser
lesser_has p q n m h k = span_has (int_min p.lo q.lo) (int_min p.hi q.hi) (int_min n m) (omega (arith, ints, clamps, h.least, k.least)) (omega (arith, ints, clamps, h.most, k.most))

pub lesser_is : (p q : Progression) → IsProgression p → IsProgression q → IsProgression (lesser p q)
unfolding lesser
lesser_is p q r s = span_is (int_min p.lo q.lo) (int_min p.hi q.hi) (omega (arith, ints, clamps, r.order, s.order))

pub greater_has : (p q : Progression) (n m : ℤ) → Has p n → Has q m → Has (greater p q) (int_max n m)
unfolding greater
greater_has p q n m h k = span_has (int_max p.lo q.lo) (int_max p.hi q.hi) (int_max n m) (omega (arith, ints, clamps, h.least, k.least)) (omega (arith, ints, clamps, h.most, k.most))

pub greater_is : (p q : Progression) → IsProgression p → IsProgression q → IsProgression (greater p q)
unfolding greater
greater_is p q r s = span_is (int_max p.lo q.lo) (int_max p.hi q.hi) (omega (arith, ints, clamps, r.order, s.order))
