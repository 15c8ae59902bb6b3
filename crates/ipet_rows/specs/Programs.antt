-- Linear programs of equations and at-most rows.
--   Row              an equation or an at-most row: terms and a right side
--   Program          a cost for each column, and the rows
--   row_at rows k    row k
--   cost_at costs e  the cost of column e
--   IsProgram p      each row's terms are of the program's columns
use Rattle.std.specs.Prelude.{ℕ, zero, suc, ℤ, pos, Bool, false, List, [], ◌∷◌, length, ◌<◌}

-- an equation or an at-most row
pub record Row : Type 0 where
  pub equation : Bool
  pub terms : List (ℕ × ℤ)
  pub right : ℤ

-- a cost for each column, and the rows
pub record Program : Type 0 where
  pub costs : List ℕ
  pub rows : List Row

-- the row without terms
abbrev pub no_row : Row
no_row = record { equation = false; terms = []; right = pos 0 }

-- row k, and past the last the row without terms
abbrev pub row_at : List Row → ℕ → Row
row_at [] k = no_row
row_at (r ∷ rs) zero = r
row_at (r ∷ rs) (suc k) = row_at rs k

-- the cost of column e
abbrev pub cost_at : List ℕ → ℕ → ℕ
cost_at [] e = 0
cost_at (c ∷ cs) zero = c
cost_at (c ∷ cs) (suc e) = cost_at cs e

-- each term's place is below n
abbrev pub IsWithin : ℕ → List (ℕ × ℤ) → Type 0
IsWithin n [] = Unit {0}
IsWithin n (t ∷ ts) = (t.0 < n) × IsWithin n ts

-- each row's terms are of the program's columns
abbrev pub IsProgram : Program → Type 0
IsProgram p = (k : ℕ) → IsWithin (length p.costs) (row_at p.rows k).terms
