-- Dual points: multipliers whose sums over the rows bound each feasible point's value.
--   column_sum p y e   the sum over the rows of multiplier times coefficient at e
--   dual_sum p y       the sum of multiplier times right side
--   IsDual p scale y   the multipliers bound the costs
use Rattle.std.specs.Prelude.{◌≡◌, ℕ, ℤ, pos, ◌*ℤ◌, ◌≤ℤ◌, false, List, length, ◌<◌}
use Rattle.ipet_rows.specs.Sums.{total, coefficient}
use Rattle.ipet_rows.specs.Firsts.{entry}
use Rattle.ipet_rows.specs.Programs.{Program, row_at, cost_at}

-- multiplier times coefficient of the row at the column
abbrev pub column_part : Program → List ℤ → ℕ → ℕ → ℤ
column_part p y e k = entry y k *ℤ coefficient (row_at p.rows k).terms e

-- the sum over the rows of multiplier times coefficient
abbrev pub column_sum : Program → List ℤ → ℕ → ℤ
column_sum p y e = total (length p.rows) (column_part p y e)

-- multiplier times right side
abbrev pub right_part : Program → List ℤ → ℕ → ℤ
right_part p y k = entry y k *ℤ (row_at p.rows k).right

-- the sum of multiplier times right side
abbrev pub dual_sum : Program → List ℤ → ℤ
dual_sum p y = total (length p.rows) (right_part p y)

-- a dual point
pub record IsDual (p : Program) (scale : ℤ) (y : List ℤ) : Type 0 where
  pub above : pos 1 ≤ℤ scale
  pub signs : (k : ℕ) → k < length p.rows → (row_at p.rows k).equation ≡ false → pos 0 ≤ℤ entry y k
  pub columns : (e : ℕ) → e < length p.costs → (scale *ℤ pos (cost_at p.costs e)) ≤ℤ column_sum p y e
