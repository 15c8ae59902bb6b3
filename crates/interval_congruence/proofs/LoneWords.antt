-- Words of the signed range.
--   low_fits       one fits a signed word of the machine
--   low_normal     it is in normal form as it is
--   low_value      so it is the one word of its parts
use Rattle.std.proofs.Common.{◌≡◌, ◌∙◌, ap, sym, refl, ℕ, ℤ, pos, neg_ℤ, ◌<◌, ◌≤◌, ◌^◌, arith}
use Rattle.std.specs.Prelude.{◌+ℤ◌, ◌-ℤ◌, ◌-◌, ◌≤ℤ◌, ◌<ℤ◌}
use Rattle.std.specs.Int.{w64, cast_signed}
use Rattle.std.proofs.lemmas.Int.{ints, to_z_pos}
use Rattle.progressions.specs.declared.ends.Progression.{Progression}
use Rattle.progressions.specs.Progressions.{half, lone}
use Rattle.progressions.specs.ProgressionLaws.{halves, full_most}
use Rattle.progressions.specs.Images.{moved}
use Rattle.strided_rules.specs.Strides.{centered, norm, one_word}
use Rattle.interval_congruence.proofs.NormalParts.{value_of, value_by}
use Rattle.strided_rules.specs.PlacedLaws.{centered_range, centered_same, by_distance, norm_once}

-- a number of the range is the one that differs from it by a multiple
central : (w : ℕ) (n : ℤ) → 1 ≤ w → neg_ℤ (half w) ≤ℤ n → n <ℤ half w → centered w n ≡ n
central w n positive low high =
    let range = centered_range w n positive in
    let two = halves w positive in
    sym (by_distance w n (centered w n) (centered_same w n) (omega (arith, ints, range.0, two)) (omega (arith, ints, range.1, two)))

stays : (n d : ℤ) → d ≡ pos 0 → moved d (lone n) ≡ lone n
stays n d none = let same : n +ℤ d ≡ n = omega (arith, ints, none) in rw same refl

-- it is in normal form as it is
pub low_normal : (w t : ℕ) → 1 ≤ w → t < 2 ^ (w - 1) → norm w (lone (pos t)) ≡ lone (pos t)
low_normal w t positive low =
    let two = halves w positive in
    let same = central w (pos t) positive (omega (arith, ints, two)) (omega (arith, ints, low)) in
    norm_once w (lone (pos t)) (omega (arith, ints, two)) ∙ stays (pos t) (centered w (pos t) -ℤ pos t) (omega (arith, ints, same))

-- it fits a signed word of the machine
pub low_fits : (w t : ℕ) → 1 ≤ w → w ≤ 64 → t < 2 ^ (w - 1) → cast_signed w64 t ≡ pos t
low_fits w t positive most low =
    let two = halves w positive in
    let small : t < 2 ^ 63 = omega (arith, low, full_most w most, two) in
    to_z_pos w64 t small

-- so it is the one word of its parts
pub low_value : (w t : ℕ) (n : ℤ) → 1 ≤ w → t < 2 ^ (w - 1) → n ≡ pos t → value_by w n 0 0 ≡ one_word w t
low_value w t n positive low same =
    let high : n +ℤ pos 0 ≡ pos t = omega (arith, ints, same) in
    (λ i. value_of w (record { lo = same i; hi = high i; step = pos 0 })) ∙ ap (λ (p : Progression). value_of w p) (sym (low_normal w t positive low))
