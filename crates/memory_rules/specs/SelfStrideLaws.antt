-- The join of a strided value with itself is the value.
--   hull_self      the hull of a progression and itself is it
--   join_self      the join of a progression in normal form with itself is it
--   stride_self    the same of strided values
use Rattle.std.proofs.Common.{◌≡◌, ℕ, suc, zero, ℤ, pos, neg_ℤ, ◌≤◌, ◌%◌, arith, refl, sym, ap, ◌∙◌, false}
use Rattle.std.specs.Prelude.{◌+ℤ◌, ◌-ℤ◌, ◌≤ℤ◌, ◌<ℤ◌, int_lt, unsigned_abs}
use Rattle.std.specs.Int.{int_min, int_max}
use Rattle.std.proofs.lemmas.Int.{ints, clamps}
use Rattle.std.proofs.lemmas.Nat.{pow_pos}
use Rattle.lists.specs.TestLaws.{by_test}
use Rattle.whole_numbers.specs.Numbers.{gcd, gcd_nat}
use Rattle.whole_numbers.specs.GcdLaws.{gcd_end, gcd_next}
use Rattle.progressions.specs.declared.ends.Progression.{Progression}
use Rattle.progressions.specs.Progressions.{IsProgression, IsPlaced, full, half, from_to, hull}
use Rattle.progressions.specs.Images.{moved}
use Rattle.progressions.specs.ProgressionLaws.{halves}
use Rattle.strided_rules.specs.Strides.{Stride, IsStride, centered, norm, shorter, join, joined}
use Rattle.strided_rules.specs.PlacedLaws.{norm_once, centered_range, centered_same, by_distance}

rest_self : (a : ℕ) → suc a % suc a ≡ 0
rest_self a = grind arith

gcd_same : (a : ℕ) → gcd_nat a a ≡ a
gcd_same zero = sym (gcd_end 0)
gcd_same (suc a) = sym (gcd_next (suc a) (suc a)) ∙ (ap (gcd_nat (suc a)) (rest_self a) ∙ sym (gcd_end (suc a)))

gcd_self : (step lo : ℤ) → pos 0 ≤ℤ step → gcd (gcd step step) (lo -ℤ lo) ≡ step
gcd_self step lo rising =
    let same = gcd_same (unsigned_abs step) in
    let none : unsigned_abs (lo -ℤ lo) ≡ 0 = omega (arith, ints) in
    let whole : pos (unsigned_abs step) ≡ step = omega (arith, ints, rising) in
    ap (λ (n : ℕ). pos (gcd_nat n (unsigned_abs (lo -ℤ lo)))) same
    ∙ (ap (λ (n : ℕ). pos (gcd_nat (unsigned_abs step) n)) none ∙ (ap (λ (n : ℕ). pos n) (sym (gcd_end (unsigned_abs step))) ∙ whole))

from_to_self : (p : Progression) → IsProgression p → from_to p.lo p.hi p.step ≡ p
from_to_self p is = by_test (int_lt p.lo p.hi)
    (λ rising. rw rising refl)
    (λ level.
    let same : p.lo ≡ p.hi = let order = is.order in omega (arith, ints, level, order) in
    rw level (λ i. record { lo = p.lo; hi = p.hi; step = sym (is.lone same) i }))

-- the hull of a progression and itself is it
pub hull_self : (p : Progression) → IsProgression p → hull p p ≡ p
unfolding hull
hull_self p is =
    let least : int_min p.lo p.lo ≡ p.lo = omega (arith, ints, clamps) in
    let most : int_max p.hi p.hi ≡ p.hi = omega (arith, ints, clamps) in
    let step = gcd_self p.step p.lo is.rising in
    ap (λ (n : ℤ). from_to n (int_max p.hi p.hi) (gcd (gcd p.step p.step) (p.lo -ℤ p.lo))) least
    ∙ (ap (λ (n : ℤ). from_to p.lo n (gcd (gcd p.step p.step) (p.lo -ℤ p.lo))) most
    ∙ (ap (from_to p.lo p.hi) step ∙ from_to_self p is))

-- the hulls of a progression and itself moved up are wider
first_wider : (w : ℕ) (p : Progression) → IsProgression p
    → int_lt ((hull (moved (full w) p) p).hi -ℤ (hull (moved (full w) p) p).lo) (p.hi -ℤ p.lo) ≡ false
unfolding hull
first_wider w p is = let positive = pow_pos w in let order = is.order in sym (omega (arith, ints, clamps, positive, order))

second_wider : (w : ℕ) (p : Progression) → IsProgression p
    → int_lt ((hull p (moved (full w) p)).hi -ℤ (hull p (moved (full w) p)).lo) (p.hi -ℤ p.lo) ≡ false
unfolding hull
second_wider w p is = let positive = pow_pos w in let order = is.order in sym (omega (arith, ints, clamps, positive, order))

-- a number of the signed range is centred
centered_self : (w : ℕ) (n : ℤ) → 1 ≤ w → neg_ℤ (half w) ≤ℤ n → n <ℤ half w → centered w n ≡ n
centered_self w n positive low high =
    let h = halves w positive in
    let c = centered_range w n positive in
    sym (by_distance w n (centered w n) (centered_same w n) (omega (arith, ints, low, high, c, h)) (omega (arith, ints, low, high, c, h)))

norm_self : (w : ℕ) (p : Progression) → 1 ≤ w → IsPlaced w p → norm w p ≡ p
norm_self w p positive placed =
    let c = centered_self w p.lo positive placed.low placed.high in
    let none : centered w p.lo -ℤ p.lo ≡ pos 0 = omega (arith, ints, c) in
    norm_once w p placed.once ∙ (ap (λ d. moved d p) none
    ∙ (λ i. record { lo = (let e : p.lo +ℤ pos 0 ≡ p.lo = omega (arith, ints) in e) i; hi = (let e : p.hi +ℤ pos 0 ≡ p.hi = omega (arith, ints) in e) i; step = p.step }))

-- the join of a progression in normal form with itself is it
pub join_self : (w : ℕ) (p : Progression) → 1 ≤ w → IsPlaced w p → join w p p ≡ p
unfolding join
join_self w p positive placed =
    let same = hull_self p placed.progression in
    let one : shorter (hull p p) (hull (moved (full w) p) p) ≡ p =
    ap (λ q. shorter q (hull (moved (full w) p) p)) same ∙ (let far = first_wider w p placed.progression in rw far refl) in
    let two : shorter p (hull p (moved (full w) p)) ≡ p = let far = second_wider w p placed.progression in rw far refl in
    ap (λ q. norm w (shorter q (hull p (moved (full w) p)))) one ∙ (ap (norm w) two ∙ norm_self w p positive placed)

-- the same of strided values
pub stride_self : (x : Stride) → IsStride x → joined x x ≡ x
stride_self x is = λ i. record { size = x.size; numbers = join_self x.size x.numbers is.size.least is.placed i }
