-- Products of numbers within 2 to the 63 fit.
use Rattle.std.proofs.Common.{ℤ, pos, negsuc, neg_ℤ, ◌^◌, arith}
use Rattle.std.specs.Prelude.{◌+ℤ◌, ◌-ℤ◌, ◌*ℤ◌, ◌≤ℤ◌, ◌<ℤ◌}
use Rattle.std.specs.Int.{w128}
use Rattle.std.specs.Int.RustNames.{FitsSigned}
use Rattle.std.proofs.lemmas.Int.{ints, clamps, fits_signed_from_abs}
use Rattle.whole_numbers.specs.Numbers.{gcd}
use Rattle.whole_numbers.specs.GcdLaws.{gcd_fits}
use Rattle.whole_numbers.specs.ProductLaws.{product_between}
use Rattle.progressions.specs.declared.ends.Progression.{Progression}
use Rattle.progressions.specs.Images.{products}
use Rattle.progressions.specs.ImageLaws.{products_is}
use Rattle.progressions.specs.Limits.{IsFactor, AreFactors}
use Rattle.progressions.specs.ProgressionLaws.{step_width}
use Rattle.strided_rules.specs.Rules.{above}
use Rattle.strided_rules.specs.RuleLaws.{above_is}
use Rattle.strided_operators.specs.Limits.{CanPlace, IsHalf}

-- a number less than 2 to the 63 from 0
pub record IsNear (x : ℤ) : Type 0 where
  pub low : neg_ℤ (pos (2 ^ 63)) <ℤ x
  pub high : x <ℤ pos (2 ^ 63)

pub near_lo : (p : Progression) → IsHalf p → IsNear p.lo
near_lo p h = record { low = omega (arith, ints, h.low); high = omega (arith, ints, h.progression.order, h.high) }

pub near_hi : (p : Progression) → IsHalf p → IsNear p.hi
near_hi p h = record { low = omega (arith, ints, h.progression.order, h.low); high = h.high }

pub near_step : (p : Progression) → IsHalf p → IsNear p.step
near_step p h = let s = step_width p h.progression in record { low = omega (arith, ints, h.progression.rising); high = omega (arith, ints, s, h.width) }

-- a product of two such numbers is less than 2 to the 126 from 0
near_product : (x y : ℤ) → IsNear x → IsNear y → (neg_ℤ (pos (2 ^ 126)) <ℤ (x *ℤ y)) × ((x *ℤ y) <ℤ pos (2 ^ 126))
near_product x y a b =
    let r = product_between (pos 1 -ℤ pos (2 ^ 63)) (pos (2 ^ 63) -ℤ pos 1) (pos 1 -ℤ pos (2 ^ 63)) (pos (2 ^ 63) -ℤ pos 1) x y (omega (arith, ints, a.low)) (omega (arith, ints, a.high)) (omega (arith, ints, b.low)) (omega (arith, ints, b.high)) in
    (omega (arith, ints, clamps, r.0), omega (arith, ints, clamps, r.1))

factor : (x y : ℤ) → IsNear x → IsNear y → IsFactor x y
factor x y a b = let r = near_product x y a b in record { low = omega (arith, ints, r.0); high = omega (arith, ints, r.1) }

pub are_factors : (p q : Progression) → IsHalf p → IsHalf q → AreFactors p q
are_factors p q h k = record {
  lo_lo = factor p.lo q.lo (near_lo p h) (near_lo q k);
  lo_hi = factor p.lo q.hi (near_lo p h) (near_hi q k);
  hi_lo = factor p.hi q.lo (near_hi p h) (near_lo q k);
  hi_hi = factor p.hi q.hi (near_hi p h) (near_hi q k);
  lo_step = factor p.lo q.step (near_lo p h) (near_step q k);
  step_lo = factor q.lo p.step (near_lo q k) (near_step p h);
  steps = factor p.step q.step (near_step p h) (near_step q k);
}

pub products_place : (p q : Progression) → IsHalf p → IsHalf q → CanPlace (products p q)
unfolding products
products_place p q h k =
    let a = near_product p.lo q.lo (near_lo p h) (near_lo q k) in
    let b = near_product p.lo q.hi (near_lo p h) (near_hi q k) in
    let c = near_product p.hi q.lo (near_hi p h) (near_lo q k) in
    let d = near_product p.hi q.hi (near_hi p h) (near_hi q k) in
    record { progression = products_is p q h.progression k.progression; low = omega (arith, ints, clamps, a.0, b.0, c.0, d.0); high = omega (arith, ints, clamps, a.1, b.1, c.1, d.1) }

-- a number of that kind times a unit of at most 2 to the 63
scaled : (x d : ℤ) → neg_ℤ (pos (2 ^ 63)) <ℤ x → x <ℤ pos (2 ^ 63) → pos 0 ≤ℤ d → d ≤ℤ pos (2 ^ 63)
    → ((neg_ℤ (pos (2 ^ 126)) +ℤ pos (2 ^ 63)) ≤ℤ (x *ℤ d)) × ((x *ℤ d) ≤ℤ (pos (2 ^ 126) -ℤ pos (2 ^ 63)))
scaled x d low high rising small =
    let r = product_between (pos 1 -ℤ pos (2 ^ 63)) (pos (2 ^ 63) -ℤ pos 1) (pos 0) (pos (2 ^ 63)) x d (omega (arith, ints, low)) (omega (arith, ints, high)) rising small in
    (omega (arith, ints, clamps, r.0), omega (arith, ints, clamps, r.1))

pub multiple_fits : (x d : ℤ) → pos 0 ≤ℤ d → d ≤ℤ pos (2 ^ 63) → IsNear x → FitsSigned w128 (x *ℤ d)
multiple_fits x d rising small n = let r = scaled x d n.low n.high rising small in fits_signed_from_abs w128 (x *ℤ d) (omega (arith, ints, r.0, r.1))

pub sum_fits : (x d y : ℤ) → pos 0 ≤ℤ d → d ≤ℤ pos (2 ^ 63) → IsNear x → IsNear y → FitsSigned w128 ((x *ℤ d) +ℤ y)
sum_fits x d y rising small n m = let r = scaled x d n.low n.high rising small in fits_signed_from_abs w128 ((x *ℤ d) +ℤ y) (omega (arith, ints, r.0, r.1, m.low, m.high))

pub step_fits : (x d y : ℤ) → pos 0 ≤ℤ d → d ≤ℤ pos (2 ^ 63) → IsNear x → IsNear y → FitsSigned w128 (gcd (x *ℤ d) y)
step_fits x d y rising small n m = let r = scaled x d n.low n.high rising small in gcd_fits (x *ℤ d) y (omega (arith, ints, r.0, r.1)) (omega (arith, ints, m.low, m.high))

pub above_place : (d : ℤ) (p q : Progression) → pos 0 ≤ℤ d → d ≤ℤ pos (2 ^ 63) → IsHalf p → IsHalf q
    → CanPlace (above d p q)
unfolding above
above_place (pos d) p q rising small h k =
    let a = scaled p.lo (pos d) (near_lo p h).low (near_lo p h).high rising small in
    let b = scaled p.hi (pos d) (near_hi p h).low (near_hi p h).high rising small in
    record { progression = above_is d p q h.progression k.progression; low = omega (arith, ints, a.0, (near_lo q k).low); high = omega (arith, ints, b.1, (near_hi q k).high) }
above_place (negsuc d) p q rising small h k = absurd (omega (arith, ints, rising))
