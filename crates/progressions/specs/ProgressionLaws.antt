-- Laws of progressions and of hulls.
--   is_from_to, has_from_to   the numbers from lo to hi are a progression, and which they are
--   is_lone, has_lone     the same of one number
--   has_lo, has_hi        the ends are numbers of it
--   step_positive         of two numbers or more the step is above 0
--   step_width            the step is at most the width
--   halves, full_most     2 to a size is two halves, and at most 2 to the 64
--   hull_first, hull_second, is_hull   a hull has the numbers of both, and lies in each progression that has
--   placed_small          a progression in normal form is small
use Rattle.std.proofs.Common.{◌≡◌, ℕ, ℤ, pos, ◌+◌, ◌-◌, ◌*◌, ◌≤◌, ◌^◌, arith, refl, ap, ◌∙◌, ◌↔◌}
use Rattle.std.specs.Prelude.{◌+ℤ◌, ◌-ℤ◌, ◌*ℤ◌, ◌≤ℤ◌, ◌<ℤ◌, int_lt}
use Rattle.std.specs.Int.{int_min, int_max}
use Rattle.std.proofs.lemmas.Int.{ints, clamps}
use Rattle.std.proofs.lemmas.Nat.{pow_pos, pow-add}
use Rattle.std.proofs.Math.Pow.{pow_mono}
use Rattle.whole_numbers.specs.Numbers.{Divides, gcd}
use Rattle.whole_numbers.specs.MultipleLaws.{by_test, divides_same, divides_sum, divides_difference, divides_through, divides_zero}
use Rattle.whole_numbers.specs.DivisionLaws.{divides_at_most}
use Rattle.whole_numbers.specs.GcdLaws.{gcd_first, gcd_second}
use Rattle.progressions.specs.declared.ends.Progression.{Progression}
use Rattle.progressions.specs.Progressions.{Has, IsProgression, IsPlaced, from_to, lone, hull}
use Rattle.progressions.specs.Limits.{IsSmall}

-- a power of 2 is two halves
pub halves : (w : ℕ) → 1 ≤ w → (2 ^ w ≡ 2 ^ (w - 1) * 2) × (1 ≤ 2 ^ (w - 1))
halves w positive = (ap (λ (n : ℕ). 2 ^ n) (let same : w ≡ w - 1 + 1 = omega arith in same) ∙ pow-add 2 (w - 1) 1, pow_pos (w - 1))

-- no size is past 64
pub full_most : (w : ℕ) → w ≤ 64 → 2 ^ w ≤ 2 ^ 64
full_most w most = pow_mono most

-- what is equal differs by a multiple
pub divides_same_number : (d x y : ℤ) → x ≡ y → Divides d (x -ℤ y)
divides_same_number d x y e = divides_same d (pos 0) (x -ℤ y) (omega (arith, ints, e)) (divides_zero d)

-- the numbers from lo to hi by a step that divides their distance
pub is_from_to : (lo hi step : ℤ) → lo ≤ℤ hi → pos 0 ≤ℤ step → Divides step (hi -ℤ lo)
    → IsProgression (from_to lo hi step)
is_from_to lo hi step order rising aligned = by_test (int_lt lo hi)
    (λ more. rw more (record { order = order; rising = rising; aligned = aligned; lone = λ e. absurd (omega (arith, ints, more)) }))
    (λ one. rw one (record { order = order; rising = omega (arith, ints); aligned = divides_same (pos 0) (pos 0) (hi -ℤ lo) (omega (arith, ints)) (divides_zero (pos 0)); lone = λ e. refl }))

pub has_from_to : (lo hi step n : ℤ) → lo ≤ℤ n → n ≤ℤ hi → Divides step (n -ℤ lo) → Has (from_to lo hi step) n
has_from_to lo hi step n least most aligned = by_test (int_lt lo hi)
    (λ more. rw more (record { least = least; most = most; aligned = aligned }))
    (λ one. rw one (record { least = least; most = most; aligned = divides_same (pos 0) (pos 0) (n -ℤ lo) (omega (arith, ints)) (divides_zero (pos 0)) }))

-- and no number is one of them but from lo to hi by the step
pub from_to_aligned : (lo hi step n : ℤ) → Has (from_to lo hi step) n → Divides step (n -ℤ lo)
from_to_aligned lo hi step n h = by_test (int_lt lo hi)
    (λ more. let h' = rw more at h in h'.aligned)
    (λ one. divides_same_number step n lo (omega (arith, ints, one, h.least, h.most)))

-- the progression of one number
pub is_lone : (n : ℤ) → IsProgression (lone n)
is_lone n = record { order = omega (arith, ints); rising = omega (arith, ints); aligned = divides_same_number (pos 0) n n refl; lone = λ e. refl }

pub has_lone : (n m : ℤ) → Has (lone n) m ↔ (m ≡ n)
has_lone n m = (λ h. omega (arith, ints, h.least, h.most), λ e. record { least = omega (arith, ints, e); most = omega (arith, ints, e); aligned = divides_same_number (pos 0) m n e })

-- the ends are numbers of it
pub has_lo : (p : Progression) → IsProgression p → Has p p.lo
has_lo p r = record { least = omega (arith, ints); most = r.order; aligned = divides_same_number p.step p.lo p.lo refl }

pub has_hi : (p : Progression) → IsProgression p → Has p p.hi
has_hi p r = record { least = r.order; most = omega (arith, ints); aligned = r.aligned }

-- the step of two numbers or more is above 0
pub step_positive : (p : Progression) → IsProgression p → p.lo <ℤ p.hi → pos 0 <ℤ p.step
step_positive p r more = by_test (int_lt (pos 0) p.step)
    (λ yes_. omega (arith, ints, yes_))
    (λ no_. let e : p.step ≡ pos 0 = omega (arith, ints, no_, r.rising) in
    let f : p.hi -ℤ p.lo ≡ r.aligned.times *ℤ pos 0 = rw e at r.aligned.is in absurd (omega (arith, ints, f, more)))

-- the step is at most the width
pub step_width : (p : Progression) → IsProgression p → p.step ≤ℤ (p.hi -ℤ p.lo)
step_width p r = by_test (int_lt p.lo p.hi)
    (λ more. divides_at_most p.step (p.hi -ℤ p.lo) r.aligned (omega (arith, ints, more)) r.rising)
    (λ one. let e = r.lone (omega (arith, ints, one, r.order)) in omega (arith, ints, e, r.order))

-- what is in normal form is small
pub placed_small : (w : ℕ) (p : Progression) → 1 ≤ w → w ≤ 64 → IsPlaced w p → IsSmall p
placed_small w p positive most placed =
    let h = halves w positive in
    let f = full_most w most in
    let s = step_width p placed.progression in
    record {
      low = omega (arith, ints, h, f, placed.low);
      high = omega (arith, ints, h, f, placed.high, placed.once);
      order = placed.progression.order;
      rising = placed.progression.rising;
      near = omega (arith, ints, s, f, placed.once);
    }

-- Hulls.

-- the step of a hull
abbrev pub hull_step : Progression → Progression → ℤ
hull_step p q = gcd (gcd p.step q.step) (p.lo -ℤ q.lo)

step_first : (p q : Progression) → Divides (hull_step p q) p.step
step_first p q = divides_through (hull_step p q) (gcd p.step q.step) p.step (gcd_first (gcd p.step q.step) (p.lo -ℤ q.lo)) (gcd_first p.step q.step)

step_second : (p q : Progression) → Divides (hull_step p q) q.step
step_second p q = divides_through (hull_step p q) (gcd p.step q.step) q.step (gcd_first (gcd p.step q.step) (p.lo -ℤ q.lo)) (gcd_second p.step q.step)

-- a number that is aligned to one of the low ends is aligned to the least
from_first : (p q : Progression) (n : ℤ) → Divides (hull_step p q) (n -ℤ p.lo)
    → Divides (hull_step p q) (n -ℤ int_min p.lo q.lo)
from_first p q n m = by_test (int_lt q.lo p.lo)
    (λ less. rw less (divides_same (hull_step p q) ((n -ℤ p.lo) +ℤ (p.lo -ℤ q.lo)) (n -ℤ q.lo) (omega (arith, ints))
    (divides_sum (hull_step p q) (n -ℤ p.lo) (p.lo -ℤ q.lo) m (gcd_second (gcd p.step q.step) (p.lo -ℤ q.lo)))))
    (λ more. rw more m)

from_second : (p q : Progression) (n : ℤ) → Divides (hull_step p q) (n -ℤ q.lo)
    → Divides (hull_step p q) (n -ℤ int_min p.lo q.lo)
from_second p q n m = from_first p q n (divides_same (hull_step p q) ((n -ℤ q.lo) -ℤ (p.lo -ℤ q.lo)) (n -ℤ p.lo) (omega (arith, ints))
    (divides_difference (hull_step p q) (n -ℤ q.lo) (p.lo -ℤ q.lo) m (gcd_second (gcd p.step q.step) (p.lo -ℤ q.lo))))

pub hull_first : (p q : Progression) (n : ℤ) → Has p n → Has (hull p q) n
unfolding hull
hull_first p q n h = has_from_to (int_min p.lo q.lo) (int_max p.hi q.hi) (hull_step p q) n
    (omega (arith, ints, clamps, h.least)) (omega (arith, ints, clamps, h.most))
    (from_first p q n (divides_through (hull_step p q) p.step (n -ℤ p.lo) (step_first p q) h.aligned))

pub hull_second : (p q : Progression) (n : ℤ) → Has q n → Has (hull p q) n
unfolding hull
hull_second p q n h = has_from_to (int_min p.lo q.lo) (int_max p.hi q.hi) (hull_step p q) n
    (omega (arith, ints, clamps, h.least)) (omega (arith, ints, clamps, h.most))
    (from_second p q n (divides_through (hull_step p q) q.step (n -ℤ q.lo) (step_second p q) h.aligned))

pub is_hull : (p q : Progression) → IsProgression p → IsProgression q → IsProgression (hull p q)
unfolding hull
is_hull p q r s = is_from_to (int_min p.lo q.lo) (int_max p.hi q.hi) (hull_step p q)
    (omega (arith, ints, clamps, r.order)) (omega (arith, ints))
    (by_test (int_lt q.hi p.hi)
    (λ more. rw more (from_first p q p.hi (divides_through (hull_step p q) p.step (p.hi -ℤ p.lo) (step_first p q) r.aligned)))
    (λ less. rw less (from_second p q q.hi (divides_through (hull_step p q) q.step (q.hi -ℤ q.lo) (step_second p q) s.aligned))))
