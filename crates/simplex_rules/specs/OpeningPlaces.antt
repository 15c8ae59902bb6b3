-- Openings as rows and columns, and the lines and places that they are in a tableau.
--   line_place rows k      the tableau's line of row k: its number, and one more for each equation before it
--   opening_places rows os the openings as lines and places
--   OpensRows p os         the openings are at-most rows that share no column and have each column
--   started p os           the tableau after the opening
--   ended p os n           the last tableau and the end, with n pivots after the opening
use Rattle.std.specs.Prelude.{◌≡◌, ◌<◌, ℕ, zero, suc, pos, Bool, true, false, List, [], ◌∷◌, length}
use Rattle.ipet_rows.specs.Sums.{coefficient}
use Rattle.ipet_rows.specs.Programs.{Row, Program, row_at, cost_at}
use Rattle.simplex_rules.specs.Tableaus.{Tableau, first_tableau}
use Rattle.simplex_rules.specs.PivotRule.{opening_at, opened, run, Ended}

-- the lines after those of a row
abbrev pub next_line : Bool → ℕ → ℕ
next_line true k = suc (suc k)
next_line false k = suc k

-- the tableau's line of row k
abbrev pub line_place : List Row → ℕ → ℕ
line_place [] k = k
line_place (r ∷ rs) zero = 0
line_place (r ∷ rs) (suc k) = next_line r.equation (line_place rs k)

-- the openings as lines and places
abbrev pub opening_places : List Row → List (ℕ × ℕ) → List (ℕ × ℕ)
opening_places rows [] = []
opening_places rows (o ∷ os) = (line_place rows o.0, suc (suc o.1)) ∷ opening_places rows os

-- one opening's row alone has the column, with 1, and its column costs the same
pub record IsOfOne (p : Program) (os : List (ℕ × ℕ)) (e : ℕ) : Type 0 where
  pub by : ℕ
  pub below : by < length os
  pub own : coefficient (row_at p.rows (opening_at os by).0).terms e ≡ pos 1
  pub others : (k : ℕ) → k < length os → (k ≡ by → ⊥) → coefficient (row_at p.rows (opening_at os k).0).terms e ≡ pos 0
  pub cost : cost_at p.costs e ≡ cost_at p.costs (opening_at os by).1

-- the openings are rows that share no column and have each column
pub record OpensRows (p : Program) (os : List (ℕ × ℕ)) : Type 0 where
  pub rows : (i : ℕ) → i < length os → (opening_at os i).0 < length p.rows
  pub columns : (i : ℕ) → i < length os → (opening_at os i).1 < length p.costs
  pub own : (i : ℕ) → i < length os → coefficient (row_at p.rows (opening_at os i).0).terms (opening_at os i).1 ≡ pos 1
  pub apart : (i k : ℕ) → i < length os → k < length os → (i ≡ k → ⊥)
      → coefficient (row_at p.rows (opening_at os i).0).terms (opening_at os k).1 ≡ pos 0
  pub covers : (e : ℕ) → e < length p.costs → IsOfOne p os e

-- the tableau after the opening
abbrev pub started : Program → List (ℕ × ℕ) → Tableau
started p os = opened (opening_places p.rows os) (length (opening_places p.rows os)) (first_tableau p)

-- the last tableau and the end, with n pivots after the opening
abbrev pub ended : Program → List (ℕ × ℕ) → ℕ → Ended
ended p os n = run p n 0 (started p os)
