-- Sums over the rows by terms: the products of the terms that there are, each and each sum tested.
--   summed_terms ys ts sum   the sum and the terms' products by their multipliers, or the first row at which it is wide
--   column_terms e b rows    what the rows have at a column, each with its row's number, the first being b
use Rattle.std.specs.Prelude.{ℕ, ◌+◌, ℤ, ◌*ℤ◌, List, [], ◌∷◌, Option, None, Some, Result, Ok, Err, if◌then◌else◌}
use Rattle.ipet_rows.specs.Sums.{coefficient}
use Rattle.ipet_rows.specs.Programs.{Row}
use Rattle.ipet_rows.specs.Rows.{vanishes}
use Rattle.ipet_rows.specs.Firsts.{entry}
use Rattle.ipet_rows.specs.Verdicts.{summed}

-- what follows a sum, or the row at which it is wide
abbrev pub with_sum : ℕ → Option ℤ → (ℤ → Result ℤ ℕ) → Result ℤ ℕ
with_sum k None more = Err k
with_sum k (Some sum) more = more sum

-- the sum and the terms' products by their multipliers
abbrev pub summed_terms : List ℤ → List (ℕ × ℤ) → ℤ → Result ℤ ℕ
summed_terms ys [] sum = Ok sum
summed_terms ys (t ∷ ts) sum = with_sum t.0 (summed sum (entry ys t.0 *ℤ t.1)) (summed_terms ys ts)

-- what the rows have at a column, each with its row's number
abbrev pub column_terms : ℕ → ℕ → List Row → List (ℕ × ℤ)
column_terms e b [] = []
column_terms e b (r ∷ rows) = if vanishes (coefficient r.terms e) then column_terms e (b + 1) rows else ((b, coefficient r.terms e) ∷ column_terms e (b + 1) rows)
