-- Numbers of the signed range.
--   is_central   a number of the range is the one that differs from it by a multiple
use Rattle.std.proofs.Common.{◌≡◌, ℕ, ℤ, neg_ℤ, ◌≤◌, arith}
use Rattle.std.specs.Prelude.{◌-ℤ◌, ◌≤ℤ◌, ◌<ℤ◌}
use Rattle.std.proofs.lemmas.Int.{ints}
use Rattle.progressions.specs.Progressions.{half}
use Rattle.progressions.specs.ProgressionLaws.{halves}
use Rattle.strided_rules.specs.Strides.{centered}
use Rattle.strided_rules.specs.PlacedLaws.{centered_range, centered_same, by_distance}

-- a number of the range is the one that differs from it by a multiple
pub is_central : (w : ℕ) (n : ℤ) → 1 ≤ w → neg_ℤ (half w) ≤ℤ n → n <ℤ half w → n ≡ centered w n
is_central w n positive low high =
    let range = centered_range w n positive in
    let two = halves w positive in
    by_distance w n (centered w n) (centered_same w n) (omega (arith, ints, range.0, two)) (omega (arith, ints, range.1, two))
