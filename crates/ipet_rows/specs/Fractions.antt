-- Points of a program, in fractions; the tests are in whole numbers.
--   whole_of point     the product of the denominators
--   part_of point e    column e over that product
--   IsPoint, IsFeasible, worth
use Rattle.std.specs.Prelude.{◌≡◌, ℕ, zero, suc, ℤ, pos, ◌*ℤ◌, ◌≤ℤ◌, List, [], ◌∷◌, length, ◌<◌}
use Rattle.ipet_rows.specs.Points.{Meets}
use Rattle.ipet_rows.specs.Programs.{Program, row_at}

-- the product of the denominators
abbrev pub whole_of : List (ℤ × ℤ) → ℤ
whole_of [] = pos 1
whole_of (p ∷ ps) = p.1 *ℤ whole_of ps

-- column e, multiplied by the product of the denominators
abbrev pub part_of : List (ℤ × ℤ) → ℕ → ℤ
part_of [] e = pos 0
part_of (p ∷ ps) zero = p.0 *ℤ whole_of ps
part_of (p ∷ ps) (suc e) = p.1 *ℤ part_of ps e

-- each is a numerator at least 0 over a denominator at least 1
abbrev pub AreFractions : List (ℤ × ℤ) → Type 0
AreFractions [] = Unit {0}
AreFractions (p ∷ ps) = (pos 0 ≤ℤ p.0) × (pos 1 ≤ℤ p.1) × AreFractions ps

-- one fraction for each column
pub record IsPoint (p : Program) (point : List (ℤ × ℤ)) : Type 0 where
  pub columns : length point ≡ length p.costs
  pub fractions : AreFractions point

-- the point meets each row
abbrev pub IsFeasible : Program → List (ℤ × ℤ) → Type 0
IsFeasible p point = (k : ℕ) → k < length p.rows → Meets (row_at p.rows k) (part_of point) (whole_of point)
