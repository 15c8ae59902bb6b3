-- Progressions in normal form, in words of the machine: a low end, a width and a step.
--   low_is       the low end fits its word
--   width_most   the width and the step fit theirs
--   width_fits   the width fits 128 bits
--   kept_is      they make the progression
use Rattle.std.proofs.Common.{◌≡◌, ◌∙◌, ap, refl, ℕ, ℤ, pos, negsuc, neg_ℤ, ◌≤◌, ◌^◌, arith}
use Rattle.std.specs.Prelude.{◌+ℤ◌, ◌-ℤ◌, ◌≤ℤ◌, ◌<ℤ◌}
use Rattle.std.specs.Int.{w64, w128, cast_signed, cast_unsigned}
use Rattle.std.specs.Int.RustNames.{FitsSigned}
use Rattle.std.proofs.lemmas.Int.{ints, to_z-of_z, fits_signed_from_abs}
use Rattle.progressions.specs.declared.ends.Progression.{Progression}
use Rattle.progressions.specs.Progressions.{IsPlaced}
use Rattle.progressions.specs.ProgressionLaws.{halves, full_most, step_width}
use Rattle.strided_rules.specs.Strides.{Stride}

narrow : (z : ℤ) → neg_ℤ (pos (2 ^ 63)) ≤ℤ z → z <ℤ pos (2 ^ 63) → FitsSigned w64 z
narrow (pos n) low high = record { sfits = omega (arith, ints, high) }
narrow (negsuc n) low high = record { sfits = omega (arith, ints, low) }

-- the low end fits its word
pub low_is : (w : ℕ) (p : Progression) (n : ℤ) → 1 ≤ w → w ≤ 64 → IsPlaced w p → n ≡ p.lo
    → cast_signed w64 (cast_unsigned w64 (cast_signed w128 (cast_unsigned w128 n))) ≡ p.lo
low_is w p n least most placed same =
    let low : neg_ℤ (pos (2 ^ 63)) ≤ℤ p.lo = omega (arith, ints, placed.low, full_most w most, halves w least) in
    let high : p.lo <ℤ pos (2 ^ 63) = omega (arith, ints, placed.high, full_most w most, halves w least) in
    rw same (ap (λ z. cast_signed w64 (cast_unsigned w64 z)) (to_z-of_z w128 p.lo (fits_signed_from_abs w128 p.lo (omega (arith, ints, low, high)))) ∙ to_z-of_z w64 p.lo (narrow p.lo low high))

-- the width fits its word
pub width_most : (w : ℕ) (p : Progression) → w ≤ 64 → IsPlaced w p → (p.hi -ℤ p.lo) <ℤ pos (2 ^ 64)
width_most w p most placed = omega (arith, ints, placed.once, full_most w most)

-- and the step
pub step_most : (w : ℕ) (p : Progression) → w ≤ 64 → IsPlaced w p → p.step <ℤ pos (2 ^ 64)
step_most w p most placed = omega (arith, ints, width_most w p most placed, step_width p placed.progression)

-- the width fits 128 bits
pub width_fits : (w : ℕ) (p : Progression) → w ≤ 64 → IsPlaced w p → FitsSigned w128 (p.hi -ℤ p.lo)
width_fits w p most placed = fits_signed_from_abs w128 (p.hi -ℤ p.lo) (omega (arith, ints, width_most w p most placed, placed.progression.order))

-- the value of a progression, and of its parts
abbrev pub value_of : ℕ → Progression → Stride
value_of w p = record { size = w; numbers = p }

abbrev pub value_by : ℕ → ℤ → ℕ → ℕ → Stride
value_by w lo width step = record { size = w; numbers = record { lo = lo; hi = lo +ℤ pos width; step = pos step } }

-- they make the progression
pub kept_is : (w : ℕ) (p : Progression) (lo : ℤ) (width step : ℕ) → lo ≡ p.lo → pos width ≡ p.hi -ℤ p.lo
    → pos step ≡ p.step → value_by w lo width step ≡ value_of w p
kept_is w p lo width step low wide stepped =
    let high : lo +ℤ pos width ≡ p.hi = omega (arith, ints, low, wide) in
    rw (high, stepped, low) refl
