-- What a verdict promises.
--   BoundsAll p v bound   each point that meets the rows is worth at most v, rounded down, and v is at most the bound
use Rattle.std.specs.Prelude.{List, ℕ, suc, ℤ, pos, ◌≤◌, ◌≤ℤ◌, ◌*ℤ◌, ◌<ℤ◌}
use Rattle.ipet_rows.specs.Programs.{Program}
use Rattle.ipet_rows.specs.Points.{MeetsAll, worth}
use Rattle.ipet_rows.specs.Fractions.{IsPoint, IsFeasible, part_of, whole_of}
use Rattle.ipet_rows.specs.declared.verdict.Verdict.{Verdict}
use Rattle.ipet_rows.specs.declared.verdict.Verdict.TheVariants.{Holds, Negative, Wide, Column, Bound}

-- each point's worth is below v + 1
pub record BoundsAll (p : Program) (v bound : ℕ) : Type 0 where
  pub points : (x : ℕ → ℤ) (w : ℤ) → pos 1 ≤ℤ w → MeetsAll p x w → worth p x <ℤ (pos (suc v) *ℤ w)
  pub fractions : (point : List (ℤ × ℤ)) → IsPoint p point → IsFeasible p point
      → worth p (part_of point) <ℤ (pos (suc v) *ℤ whole_of point)
  pub least : v ≤ bound

-- a fact where the verdict is `Holds`
abbrev pub OnHolds : Verdict → (ℕ → Type 0) → Type 0
OnHolds (Holds v) P = P v
OnHolds (Negative k) P = Unit {0}
OnHolds (Wide k) P = Unit {0}
OnHolds (Column e) P = Unit {0}
OnHolds (Bound v) P = Unit {0}
