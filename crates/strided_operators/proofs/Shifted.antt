-- Shifts of the numbers of progressions.
--   quotients_past        past 66 bits nothing but the sign is left of a number within 2 to the 64
--   round_shift           what is as wide as the size without the bits goes round where it is shifted
--   low_shift             what is taken off above the size without the bits does not change what is shifted
--   shifted, shifted_places   what is shifted of the rest is far from the limits
use Rattle.std.proofs.Common.{◌≡◌, ℕ, ℤ, pos, neg_ℤ, ◌+◌, ◌-◌, ◌*◌, ◌<◌, ◌≤◌, ◌^◌, arith, refl, sym, ap, ◌∙◌, true, false}
use Rattle.std.specs.Prelude.{◌+ℤ◌, ◌-ℤ◌, ◌*ℤ◌, ◌≤ℤ◌, ◌<ℤ◌, int_le, int_lt}
use Rattle.std.specs.Int.{int_rem_euclid, int_div_euclid, w128}
use Rattle.std.specs.Int.RustNames.{FitsSigned}
use Rattle.std.proofs.lemmas.Int.{ints, fits_signed_from_abs}
use Rattle.std.proofs.lemmas.Nat.{pow_pos, pow-add}
use Rattle.std.proofs.Math.Pow.{pow_mono}
use Rattle.whole_numbers.specs.Numbers.{Divides}
use Rattle.whole_numbers.specs.MultipleLaws.{by_test, sum_times, difference_times, divides_same, divides_difference, divides_zero, divides_scaled}
use Rattle.whole_numbers.specs.DivisionLaws.{quotient_is, same_rest}
use Rattle.whole_numbers.specs.ProductLaws.{times_rising}
use Rattle.progressions.specs.declared.ends.Progression.{Progression}
use Rattle.progressions.specs.Progressions.{IsProgression, IsPlaced, from_to, full, half}
use Rattle.progressions.specs.Images.{moved, multiples, quotients, quotient_step}
use Rattle.progressions.specs.Parts.{IsPiece}
use Rattle.progressions.specs.ImageLaws.{multiples_is}
use Rattle.progressions.specs.ProgressionLaws.{step_width, halves, full_most}
use Rattle.strided_rules.specs.Strides.{norm, whole, centered}
use Rattle.strided_rules.specs.PlacedLaws.{norm_round, norm_once, centered_same}
use Rattle.strided_operators.specs.Limits.{CanPlace}

-- ---- to lower places

-- a number between the divisor and its negation leaves its sign, and of 0 and more its rest is the number itself
sign_left : (x : ℤ) (d : ℕ) → 0 < d → neg_ℤ (pos d) ≤ℤ x → x <ℤ pos 0 → int_div_euclid x (pos d) ≡ neg_ℤ (pos 1)
sign_left x d positive low below = (quotient_is x (neg_ℤ (pos 1)) (x +ℤ pos d) d positive (omega (arith, ints)) (omega (arith, ints, low)) (omega (arith, ints, below))).0

none_left : (x : ℤ) (d : ℕ) → 0 < d → pos 0 ≤ℤ x → x <ℤ pos d
    → (int_div_euclid x (pos d) ≡ pos 0) × (int_rem_euclid x (pos d) ≡ x)
none_left x d positive low high = quotient_is x (pos 0) x d positive (omega (arith, ints)) low high

wide : (k : ℕ) → 66 ≤ k → 2 ^ 66 ≤ 2 ^ k
wide k high = pow_mono high

quotient_past : (x : ℤ) (k : ℕ) → 66 ≤ k → neg_ℤ (pos (2 ^ 66)) ≤ℤ x → x <ℤ pos (2 ^ 66)
    → int_div_euclid x (pos (2 ^ 66)) ≡ int_div_euclid x (full k)
quotient_past x k past low high = by_test (int_lt x (pos 0))
    (λ t. let below : x <ℤ pos 0 = omega (arith, ints, t) in
    sign_left x (2 ^ 66) (pow_pos 66) low below ∙ sym (sign_left x (2 ^ k) (pow_pos k) (omega (arith, ints, low, wide k past)) below))
    (λ t. let rising : pos 0 ≤ℤ x = omega (arith, ints, t) in
    (none_left x (2 ^ 66) (pow_pos 66) rising high).0 ∙ sym (none_left x (2 ^ k) (pow_pos k) rising (omega (arith, ints, high, wide k past))).0)

step_past : (s : ℤ) (k : ℕ) → 66 ≤ k → pos 0 ≤ℤ s → s <ℤ pos (2 ^ 66)
    → quotient_step (pos (2 ^ 66)) s ≡ quotient_step (full k) s
step_past s k past rising high =
    let near = none_left s (2 ^ 66) (pow_pos 66) rising high in
    let far = none_left s (2 ^ k) (pow_pos k) rising (omega (arith, ints, high, wide k past)) in
    rw (near.0, near.1, far.0, far.1) refl

pub quotients_past : (k : ℕ) (p : Progression) → 66 ≤ k → IsPiece (neg_ℤ (pos (2 ^ 64))) (pos (2 ^ 64)) p
    → quotients (pos (2 ^ 66)) p ≡ quotients (full k) p
unfolding quotients
quotients_past k p past i =
    let width = step_width p i.progression in
    let lo = quotient_past p.lo k past (omega (arith, ints, i.low)) (omega (arith, ints, i.high, i.progression.order)) in
    let hi = quotient_past p.hi k past (omega (arith, ints, i.low, i.progression.order)) (omega (arith, ints, i.high)) in
    let step = step_past p.step k past i.progression.rising (omega (arith, ints, width, i.low, i.high)) in
    ap (λ (n : ℤ). from_to n (int_div_euclid p.hi (pos (2 ^ 66))) (quotient_step (pos (2 ^ 66)) p.step)) lo
    ∙ ap (λ (n : ℤ). from_to (int_div_euclid p.lo (full k)) n (quotient_step (pos (2 ^ 66)) p.step)) hi
    ∙ ap (λ (n : ℤ). from_to (int_div_euclid p.lo (full k)) (int_div_euclid p.hi (full k)) n) step

-- ---- to higher places

full_split : (w k : ℕ) → k < w → 2 ^ w ≡ 2 ^ (w - k) * 2 ^ k
full_split w k below = ap (λ (n : ℕ). 2 ^ n) (let same : w ≡ w - k + k = omega (arith, below) in same) ∙ pow-add 2 (w - k) k

pub round_shift : (w k : ℕ) (p : Progression) → k < w → full (w - k) ≤ℤ (p.hi -ℤ p.lo)
    → norm w (multiples (full k) p) ≡ whole w
unfolding multiples
round_shift w k p below round = norm_round w (multiples (full k) p)
    (omega (arith, ints, full_split w k below, difference_times p.hi p.lo (full k), times_rising (full (w - k)) (p.hi -ℤ p.lo) (full k) round (omega (arith, ints))))

ends_same : (a b c d step : ℤ) → a ≡ b → c ≡ d
    → (let p : Progression = record { lo = a; hi = c; step = step } in p) ≡ record { lo = b; hi = d; step = step }
ends_same a b c d step e f = rw (e, f) refl

centered_moved : (w : ℕ) (n d : ℤ) → Divides (full w) d → centered w (n +ℤ d) ≡ centered w n
centered_moved w n d m = ap (λ (r : ℤ). r -ℤ half w) (same_rest ((n +ℤ d) +ℤ half w) (n +ℤ half w) (2 ^ w) (pow_pos w) (divides_same (full w) d (((n +ℤ d) +ℤ half w) -ℤ (n +ℤ half w)) (omega (arith, ints)) m))

-- what is a multiple apart is placed alike
norm_moved : (w : ℕ) (p : Progression) (d : ℤ) → Divides (full w) d → norm w (moved d p) ≡ norm w p
norm_moved w p d m = by_test (int_le (full w) (p.hi -ℤ p.lo))
    (λ t. norm_round w (moved d p) (omega (arith, ints, t)) ∙ sym (norm_round w p (omega (arith, ints, t))))
    (λ t. rw (norm_once w (moved d p) (omega (arith, ints, t)), norm_once w p (omega (arith, ints, t)))
    (let same : centered w (p.lo +ℤ d) ≡ centered w p.lo = centered_moved w p.lo d m in
    ends_same ((p.lo +ℤ d) +ℤ (centered w (p.lo +ℤ d) -ℤ (p.lo +ℤ d))) (p.lo +ℤ (centered w p.lo -ℤ p.lo)) ((p.hi +ℤ d) +ℤ (centered w (p.lo +ℤ d) -ℤ (p.lo +ℤ d))) (p.hi +ℤ (centered w p.lo -ℤ p.lo)) p.step
    (omega (arith, ints, same)) (omega (arith, ints, same))))

multiples_moved : (d c : ℤ) (p : Progression) → multiples d (moved c p) ≡ moved (c *ℤ d) (multiples d p)
unfolding multiples
multiples_moved d c p =
    let lo = sum_times p.lo c d in
    let hi = sum_times p.hi c d in
    let test : int_lt ((p.lo +ℤ c) *ℤ d) ((p.hi +ℤ c) *ℤ d) ≡ int_lt (p.lo *ℤ d) (p.hi *ℤ d) = by_test (int_lt (p.lo *ℤ d) (p.hi *ℤ d))
    (λ t. let e : int_lt ((p.lo +ℤ c) *ℤ d) ((p.hi +ℤ c) *ℤ d) ≡ true = sym (omega (arith, ints, lo, hi, t)) in e ∙ sym t)
    (λ t. let e : int_lt ((p.lo +ℤ c) *ℤ d) ((p.hi +ℤ c) *ℤ d) ≡ false = sym (omega (arith, ints, lo, hi, t)) in e ∙ sym t) in
    rw (test, lo, hi) refl

pub low_shift : (w k : ℕ) (p : Progression) → k < w → (p.hi -ℤ p.lo) <ℤ full (w - k)
    → norm w (multiples (full k) (norm (w - k) p)) ≡ norm w (multiples (full k) p)
low_shift w k p below once =
    let v = w - k in
    let c = centered v p.lo -ℤ p.lo in
    let near : Divides (full v) c = divides_same (full v) (pos 0 -ℤ (p.lo -ℤ centered v p.lo)) c (omega (arith, ints)) (divides_difference (full v) (pos 0) (p.lo -ℤ centered v p.lo) (divides_zero (full v)) (centered_same v p.lo)) in
    let split : full v *ℤ full k ≡ full w = ap pos (sym (full_split w k below)) in
    let apart : Divides (full w) (c *ℤ full k) = rw (← split) (divides_scaled (full k) (full v) c near) in
    ap (λ (q : Progression). norm w (multiples (full k) q)) (norm_once v p once)
    ∙ ap (norm w) (multiples_moved (full k) c p)
    ∙ norm_moved w (multiples (full k) p) (c *ℤ full k) apart

-- near 0
abbrev pub Near : ℤ → Type 0
Near z = (neg_ℤ (pos (2 ^ 65)) ≤ℤ z) × (z ≤ℤ pos (2 ^ 65))

-- what is at most two turns of the rest from 0 is, once shifted, at most two turns of the size
near_shift : (w k : ℕ) (x : ℤ) → k < w → w ≤ 64 → (pos 0 -ℤ (full (w - k) +ℤ full (w - k))) ≤ℤ x
    → x ≤ℤ (full (w - k) +ℤ full (w - k)) → Near (x *ℤ full k)
near_shift w k x below most low high =
    let split = full_split w k below in
    let f = full_most w most in
    let turns = sum_times (full (w - k)) (full (w - k)) (full k) in
    let less = difference_times (pos 0) (full (w - k) +ℤ full (w - k)) (full k) in
    let a = times_rising (pos 0 -ℤ (full (w - k) +ℤ full (w - k))) x (full k) low (omega (arith, ints)) in
    let b = times_rising x (full (w - k) +ℤ full (w - k)) (full k) high (omega (arith, ints)) in
    (omega (arith, ints, split, f, turns, less, a), omega (arith, ints, split, f, turns, b))

-- the ends and the step of what is shifted of the rest are near 0
pub record IsShifted (k : ℕ) (q : Progression) : Type 0 where
  pub lo : Near (q.lo *ℤ full k)
  pub hi : Near (q.hi *ℤ full k)
  pub step : Near (q.step *ℤ full k)

pub shifted : (w k : ℕ) (q : Progression) → k < w → w ≤ 64 → IsPlaced (w - k) q → IsShifted k q
shifted w k q below most placed =
    let h = halves (w - k) (omega (arith, below)) in
    let width = step_width q placed.progression in
    let order = placed.progression.order in record {
      lo = near_shift w k q.lo below most (omega (arith, ints, h.0, placed.low)) (omega (arith, ints, h.0, placed.high));
      hi = near_shift w k q.hi below most (omega (arith, ints, h.0, placed.low, order)) (omega (arith, ints, h.0, placed.high, placed.once));
      step = near_shift w k q.step below most (omega (arith, ints, placed.progression.rising)) (omega (arith, ints, width, placed.once));
    }

pub near_fits : (z : ℤ) → Near z → FitsSigned w128 z
near_fits z n = fits_signed_from_abs w128 z (omega (arith, ints, n.0, n.1))

pub shifted_places : (k : ℕ) (q : Progression) → IsProgression q → IsShifted k q → CanPlace (multiples (full k) q)
unfolding multiples
shifted_places k q is s = record { progression = multiples_is (2 ^ k) q is; low = omega (arith, ints, s.lo.0); high = omega (arith, ints, s.hi.1) }
