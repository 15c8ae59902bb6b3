-- Programs whose numbers are small.
--   IsUpTo n z          between minus so much and so much
--   IsSmall p           costs, coefficients, right sides and the number of rows have about 32 bits
--   ConstraintFits k    the count that the constraint tells fits 32 bits
use Rattle.std.specs.Prelude.{◌<◌, ◌^◌, ◌-ℤ◌, ◌≤ℤ◌, ℕ, ℤ, pos, length}
use Rattle.ipet_rows.specs.Sums.{coefficient}
use Rattle.ipet_rows.specs.Programs.{Program, row_at, cost_at}
use Rattle.dual_check.specs.declared.constraint.Constraint.{Constraint}
use Rattle.dual_check.specs.declared.constraint.Constraint.TheVariants.{Flow, Most, Least, Limit, Demand, Apart}

-- between minus so much and so much
abbrev pub IsUpTo : ℕ → ℤ → Type 0
IsUpTo n z = ((pos 0 -ℤ pos n) ≤ℤ z) × (z ≤ℤ pos n)

-- costs, coefficients, right sides and the number of rows are small
pub record IsSmall (p : Program) : Type 0 where
  pub rows : length p.rows < 4294967296
  pub costs : (e : ℕ) → cost_at p.costs e < 4294967296
  pub numbers : (k e : ℕ) → IsUpTo 8589934592 (coefficient (row_at p.rows k).terms e)
  pub rights : (k : ℕ) → IsUpTo 8589934592 (row_at p.rows k).right

-- the count that the constraint tells fits 32 bits
abbrev pub ConstraintFits : Constraint → Type 0
ConstraintFits (Flow n) = Unit {0}
ConstraintFits (Most s header n high) = high < 2 ^ 32
ConstraintFits (Least s header n low) = low < 2 ^ 32
ConstraintFits (Limit n high) = high < 2 ^ 32
ConstraintFits (Demand n low) = low < 2 ^ 32
ConstraintFits (Apart header a b) = Unit {0}
