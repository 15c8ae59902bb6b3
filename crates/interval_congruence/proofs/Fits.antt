-- What sums of the numbers of values give can be placed.
use Rattle.std.proofs.Common.{ℤ, pos, neg_ℤ, arith}
use Rattle.std.specs.Prelude.{◌+ℤ◌, ◌≤ℤ◌}
use Rattle.std.specs.Int.{w128}
use Rattle.std.specs.Int.RustNames.{FitsSigned}
use Rattle.std.proofs.lemmas.Int.{ints, fits_signed_from_abs}
use Rattle.progressions.specs.declared.ends.Progression.{Progression}
use Rattle.progressions.specs.Progressions.{IsProgression}
use Rattle.progressions.specs.Images.{moved, negated, sums, differences}
use Rattle.progressions.specs.ImageLaws.{negated_is, sums_is, differences_is}
use Rattle.progressions.specs.PartLaws.{moved_is}
use Rattle.progressions.specs.Limits.{IsSmall}
use Rattle.strided_operators.specs.Limits.{CanPlace}

pub lowered_places : (p : Progression) → IsProgression p → IsSmall p → CanPlace (moved (neg_ℤ (pos 1)) (negated p))
lowered_places p is s = record { progression = moved_is (neg_ℤ (pos 1)) (negated p) (negated_is p is); low = omega (arith, ints, s.high); high = omega (arith, ints, s.low) }

pub sums_place : (k : ℤ) (p q : Progression) → neg_ℤ (pos 1) ≤ℤ k → k ≤ℤ pos 1 → IsProgression p → IsProgression q
    → IsSmall p → IsSmall q → CanPlace (moved k (sums p q))
unfolding sums
sums_place k p q low high is it s t = record { progression = moved_is k (sums p q) (sums_is p q is it); low = omega (arith, ints, s.low, t.low, low); high = omega (arith, ints, s.high, t.high, high) }

pub differences_place : (k : ℤ) (p q : Progression) → neg_ℤ (pos 1) ≤ℤ k → k ≤ℤ pos 1 → IsProgression p
    → IsProgression q → IsSmall p → IsSmall q → CanPlace (moved k (differences p q))
unfolding differences
differences_place k p q low high is it s t = record { progression = moved_is k (differences p q) (differences_is p q is it); low = omega (arith, ints, s.low, t.high, low); high = omega (arith, ints, s.high, t.low, high) }

pub sums_fit : (k : ℤ) (p q : Progression) → neg_ℤ (pos 1) ≤ℤ k → k ≤ℤ pos 1 → IsSmall p → IsSmall q
    → FitsSigned w128 ((sums p q).lo +ℤ k) × FitsSigned w128 ((sums p q).hi +ℤ k)
unfolding sums
sums_fit k p q low high s t = (
  fits_signed_from_abs w128 ((sums p q).lo +ℤ k) (omega (arith, ints, s.low, s.high, t.low, t.high, s.order, t.order, low, high)),
  fits_signed_from_abs w128 ((sums p q).hi +ℤ k) (omega (arith, ints, s.low, s.high, t.low, t.high, s.order, t.order, low, high)),
)

pub differences_fit : (k : ℤ) (p q : Progression) → neg_ℤ (pos 1) ≤ℤ k → k ≤ℤ pos 1 → IsSmall p → IsSmall q
    → FitsSigned w128 ((differences p q).lo +ℤ k) × FitsSigned w128 ((differences p q).hi +ℤ k)
unfolding differences
differences_fit k p q low high s t = (
  fits_signed_from_abs w128 ((differences p q).lo +ℤ k) (omega (arith, ints, s.low, s.high, t.low, t.high, s.order, t.order, low, high)),
  fits_signed_from_abs w128 ((differences p q).hi +ℤ k) (omega (arith, ints, s.low, s.high, t.low, t.high, s.order, t.order, low, high)),
)
