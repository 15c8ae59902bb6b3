-- The verdict on multipliers: the first of the tests, in their order.
--   first_wide n f     the first k below n at which f k or the sum up to it does not fit
--   verdict p d y b    what the test of the multipliers answers
use Rattle.std.specs.Prelude.{ℕ, ℤ, pos, ◌*ℤ◌, ◌+ℤ◌, Bool, ◌&&◌, ◌||◌, nat_le, int_le, List, length, Option, None, Some, if◌then◌else◌, unsigned_abs}
use Rattle.std.specs.Int.{int_div_euclid, int_max}
use Rattle.ipet_rows.specs.Firsts.{fits, entry, first, or_else}
use Rattle.ipet_rows.specs.Sums.{total, coefficient}
use Rattle.ipet_rows.specs.Programs.{Program, row_at, cost_at}
use Rattle.ipet_rows.specs.Duals.{column_part, column_sum, right_part, dual_sum}
use Rattle.ipet_rows.specs.declared.verdict.Verdict.{Verdict}
use Rattle.ipet_rows.specs.declared.verdict.Verdict.TheVariants.{Holds, Negative, Wide, Column, Bound}

-- the product at k, or the sum up to it, is wide
abbrev pub wide_at : (ℕ → ℤ) → ℕ → Option ℕ
wide_at f k = if fits (f k) && fits (total k f +ℤ f k) then None else Some k

-- the first at which the product or the sum is wide
abbrev pub first_wide : ℕ → (ℕ → ℤ) → Option ℕ
first_wide n f = first n (wide_at f)

-- the sum with one product more, where both fit
abbrev pub summed : ℤ → ℤ → Option ℤ
summed sum product = if fits product && fits (sum +ℤ product) then Some (sum +ℤ product) else None

-- what the terms of a row have at a column, or its right side
abbrev pub part_of_row : Program → Option ℕ → ℕ → ℤ
part_of_row p (Some e) k = coefficient (row_at p.rows k).terms e
part_of_row p None k = (row_at p.rows k).right

-- multiplier times this part
abbrev pub row_part : Program → List ℤ → Option ℕ → ℕ → ℤ
row_part p y part k = entry y k *ℤ part_of_row p part k

-- the test of one multiplier
abbrev pub sign_test : ℕ → Bool → ℤ → Option Verdict
sign_test k equation y = if equation || int_le (pos 0) y then None else Some (Negative k)

-- a multiplier below 0 on an at-most row
abbrev pub sign_at : Program → List ℤ → ℕ → Option Verdict
sign_at p y k = sign_test k (row_at p.rows k).equation (entry y k)

-- what follows where nothing was wide
abbrev pub unless_wide : {A : Type 0} → Option ℕ → (ℕ → A) → A → A
unless_wide None wide other = other
unless_wide (Some k) wide other = wide k

-- the test of one column whose sum is known
abbrev pub column_test : ℕ → ℕ → ℤ → ℤ → Option Verdict
column_test rows e need sum = if fits need then (if int_le need sum then None else Some (Column e)) else Some (Wide rows)

-- the verdict at one column
abbrev pub column_at : Program → ℤ → List ℤ → ℕ → Option Verdict
column_at p scale y e = unless_wide (first_wide (length p.rows) (column_part p y e)) (λ k. Some (Wide k))
    (column_test (length p.rows) e (scale *ℤ pos (cost_at p.costs e)) (column_sum p y e))

-- the dual value, rounded down; a negative one is 0
abbrev pub floor_of : ℤ → ℤ → ℕ
floor_of sum scale = unsigned_abs (int_max (pos 0) (int_div_euclid sum scale))

-- the comparison with the bound
abbrev pub bound_test : ℕ → ℕ → Verdict
bound_test bound value = if nat_le value bound then Holds value else Bound value

-- the verdict on the sum of the right sides
abbrev pub right_verdict : Program → ℤ → List ℤ → ℕ → Verdict
right_verdict p scale y bound = unless_wide (first_wide (length p.rows) (right_part p y)) Wide
    (bound_test bound (floor_of (dual_sum p y) scale))

-- the first answer, or the last test's
abbrev pub verdict_or : Option Verdict → Verdict → Verdict
verdict_or None last = last
verdict_or (Some v) last = v

-- the verdict: signs, then columns, then the right sides
unfoldable pub verdict : Program → ℤ → List ℤ → ℕ → Verdict
verdict p scale y bound = verdict_or (or_else (first (length p.rows) (sign_at p y)) (first (length p.costs) (column_at p scale y)))
    (right_verdict p scale y bound)
