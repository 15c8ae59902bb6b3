-- Bounds under which code on progressions fits 128 bits.
--   AreNear p          the ends lie within 2 to the 72 of 0, in order
--   IsSmall p          the ends lie within 2 to the 70, and the step is at most 2 to the 71
--   IsFactor x y       the product lies within 2 to the 126
--   AreFactors p q     the products of the ends and of the steps do
--   IfSmall o          the part, if there is one, is small
use Rattle.std.specs.Prelude.{ℤ, pos, neg_ℤ, ◌*ℤ◌, ◌≤ℤ◌, ◌^◌, Option, Some, None}
use Rattle.progressions.specs.declared.ends.Progression.{Progression}

-- the ends are far from the limits of 128 bits
pub record AreNear (p : Progression) : Type 0 where
  pub low : neg_ℤ (pos (2 ^ 72)) ≤ℤ p.lo
  pub high : p.hi ≤ℤ pos (2 ^ 72)
  pub order : p.lo ≤ℤ p.hi

-- the ends and the step are
pub record IsSmall (p : Progression) : Type 0 where
  pub low : neg_ℤ (pos (2 ^ 70)) ≤ℤ p.lo
  pub high : p.hi ≤ℤ pos (2 ^ 70)
  pub order : p.lo ≤ℤ p.hi
  pub rising : pos 0 ≤ℤ p.step
  pub near : p.step ≤ℤ pos (2 ^ 71)

-- the part is, if there is one
abbrev pub IfSmall : Option Progression → Type 0
IfSmall None = Unit {0}
IfSmall (Some p) = IsSmall p

-- a product that is far from the limits
pub record IsFactor (x y : ℤ) : Type 0 where
  pub low : neg_ℤ (pos (2 ^ 126)) ≤ℤ (x *ℤ y)
  pub high : (x *ℤ y) ≤ℤ pos (2 ^ 126)

-- the products of the ends and steps are
pub record AreFactors (p q : Progression) : Type 0 where
  pub lo_lo : IsFactor p.lo q.lo
  pub lo_hi : IsFactor p.lo q.hi
  pub hi_lo : IsFactor p.hi q.lo
  pub hi_hi : IsFactor p.hi q.hi
  pub lo_step : IsFactor p.lo q.step
  pub step_lo : IsFactor q.lo p.step
  pub steps : IsFactor p.step q.step
