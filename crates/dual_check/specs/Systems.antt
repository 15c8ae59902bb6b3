-- A linear program with its openings, as contracts see it, and what every one keeps.
--   System              the program, and for each opening a row and a column
--   IsSystem s          fewer than 4294967295 rows, columns and openings; terms are of the columns and ascend; numbers are small
--   AreOf n rows        each row's terms are of the first n columns, ascend, and none is 0
--   columns_from n e rows     the terms of columns e to e + n - 1, by column
--   AreColumns n rows columns   the lists are the terms of columns 0 to n - 1
use Rattle.std.specs.Prelude.{◌≡◌, ◌<◌, ◌^◌, ◌+◌, ◌-◌, ℕ, zero, suc, ℤ, List, [], ◌∷◌, length}
use Rattle.ipet_rows.specs.Sums.{IsAscending}
use Rattle.ipet_rows.specs.Programs.{Row, Program, IsProgram, IsWithin, row_at}
use Rattle.ipet_rows.specs.PathSparseLaws.{AreSome}
use Rattle.ipet_rows.specs.Sparse.{column_terms}
use Rattle.dual_check.specs.Small.{IsSmall}

-- the program, and for each opening a row and a column
pub record System : Type 0 where
  pub program : Program
  pub openings : List (ℕ × ℕ)

-- each row's terms are by ascending column
abbrev pub AreAscending : List Row → Type 0
AreAscending rows = (k : ℕ) → IsAscending (row_at rows k).terms

-- what every one keeps
pub record IsSystem (s : System) : Type 0 where
  pub few_columns : length s.program.costs < 2 ^ 32 - 1
  pub few_rows : length s.program.rows < 2 ^ 32 - 1
  pub few_openings : length s.openings < 2 ^ 32 - 1
  pub within : IsProgram s.program
  pub ascending : AreAscending s.program.rows
  pub small : IsSmall s.program

-- each row's terms are of the first n columns, ascend, and none is 0
abbrev pub AreOf : ℕ → List Row → Type 0
AreOf n [] = Unit {0}
AreOf n (r ∷ rows) = IsWithin n r.terms × IsAscending r.terms × AreSome r.terms × AreOf n rows

-- the terms of n columns from column e on
abbrev pub columns_from : ℕ → ℕ → List Row → List (List (ℕ × ℤ))
columns_from zero e rows = []
columns_from (suc n) e rows = column_terms e 0 rows ∷ columns_from n (e + 1) rows

-- the lists are the terms of columns 0 to n - 1
abbrev pub AreColumns : ℕ → List Row → List (List (ℕ × ℤ)) → Type 0
AreColumns n rows columns = columns ≡ columns_from n 0 rows
