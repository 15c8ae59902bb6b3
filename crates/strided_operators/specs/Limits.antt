-- Bounds under which code on values fits 128 bits.
--   CanPlace p                a progression whose ends lie within 2 to the 126
--   IsHalf p                  a progression whose ends and step lie within 2 to the 63
--   IfTakes takes o           the piece, if there is one, is taken
--   TakesEach takes pieces    each piece is
use Rattle.std.specs.Prelude.{pos, neg_ℤ, ◌-ℤ◌, ◌≤ℤ◌, ◌<ℤ◌, ◌^◌, Option, Some, None}
use Rattle.progressions.specs.declared.ends.Progression.{Progression}
use Rattle.progressions.specs.declared.ends.Pieces.{Pieces}
use Rattle.progressions.specs.Progressions.{IsProgression}

pub record CanPlace (p : Progression) : Type 0 where
  pub progression : IsProgression p
  pub low : neg_ℤ (pos (2 ^ 126)) ≤ℤ p.lo
  pub high : p.hi <ℤ pos (2 ^ 126)

-- the ends and the step lie within 2 to the 63
pub record IsHalf (p : Progression) : Type 0 where
  pub progression : IsProgression p
  pub low : neg_ℤ (pos (2 ^ 62)) ≤ℤ p.lo
  pub high : p.hi <ℤ pos (2 ^ 63)
  pub width : (p.hi -ℤ p.lo) <ℤ pos (2 ^ 63)

-- the piece, if there is one, is taken
abbrev pub IfTakes : (Progression → Type 0) → Option Progression → Type 0
IfTakes takes None = Unit {0}
IfTakes takes (Some p) = takes p

-- each piece is
pub record TakesEach (takes : Progression → Type 0) (pieces : Pieces) : Type 0 where
  pub first : IfTakes takes pieces.first
  pub second : IfTakes takes pieces.second
  pub third : IfTakes takes pieces.third
