-- A point of fractions as values over one whole.
use Rattle.std.proofs.Common.{ℕ, ℤ, pos, negsuc, zero, suc, arith, List, [], ◌∷◌}
use Rattle.std.specs.Prelude.{◌*ℤ◌, ◌≤ℤ◌}
use Rattle.std.proofs.lemmas.Int.{ints}
use Rattle.ipet_rows.specs.Programs.{Program}
use Rattle.ipet_rows.specs.Points.{MeetsAll}
use Rattle.ipet_rows.specs.Fractions.{whole_of, part_of, AreFractions, IsPoint, IsFeasible}

above : (a b : ℤ) → pos 1 ≤ℤ a → pos 1 ≤ℤ b → pos 1 ≤ℤ (a *ℤ b)
above (pos (suc a)) (pos (suc b)) p q = omega (arith, ints)
above (pos zero) b p q = absurd (omega (arith, ints))
above (pos (suc a)) (pos zero) p q = absurd (omega (arith, ints))
above (pos (suc a)) (negsuc b) p q = absurd (omega (arith, ints))
above (negsuc a) b p q = absurd (omega (arith, ints))

not_below : (a b : ℤ) → pos 0 ≤ℤ a → pos 0 ≤ℤ b → pos 0 ≤ℤ (a *ℤ b)
not_below (pos a) (pos b) p q = omega (arith, ints)
not_below (negsuc a) b p q = absurd (omega (arith, ints))
not_below (pos a) (negsuc b) p q = absurd (omega (arith, ints))

pub whole_above : (ps : List (ℤ × ℤ)) → AreFractions ps → pos 1 ≤ℤ whole_of ps
whole_above [] are = omega (arith, ints)
whole_above (p ∷ ps) are = above p.1 (whole_of ps) are.1 (whole_above ps are.2)

part_not_below : (ps : List (ℤ × ℤ)) (e : ℕ) → AreFractions ps → pos 0 ≤ℤ part_of ps e
part_not_below [] e are = omega (arith, ints)
part_not_below (p ∷ ps) zero are = let w = whole_above ps are.2 in not_below p.0 (whole_of ps) are.0 (omega (arith, ints, w))
part_not_below (p ∷ ps) (suc e) are = let d = are.1 in not_below p.1 (part_of ps e) (omega (arith, ints, d)) (part_not_below ps e are.2)

-- a feasible point meets each row
pub point_meets_all : (p : Program) (point : List (ℤ × ℤ)) → IsPoint p point → IsFeasible p point
    → MeetsAll p (part_of point) (whole_of point)
point_meets_all p point is feasible = record { columns = λ e. part_not_below point e is.fractions; meets = feasible }
