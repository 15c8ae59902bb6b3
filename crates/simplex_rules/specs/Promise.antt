-- What the rule promises.
--   basic_point t        the columns read off the tableau, over point_whole t
--   handed p t           the multipliers that the tableau hands out
--   Opens p os           the openings are rows that share no column and have each column
--   Answers p x          the multipliers are a dual point; at `Least` the point meets the rows; the two values are one
use Rattle.std.specs.Prelude.{◌≡◌, ℕ, zero, suc, ℤ, pos, neg_ℤ, ◌*ℤ◌, ◌≤ℤ◌, ◌<◌, ◌≤◌, ◌==◌, if◌then◌else◌, List, [], ◌∷◌, length}
use Rattle.ipet_rows.specs.Sums.{coefficient}
use Rattle.ipet_rows.specs.Programs.{Program}
use Rattle.ipet_rows.specs.Points.{MeetsAll, worth}
use Rattle.ipet_rows.specs.Firsts.{entry}
use Rattle.ipet_rows.specs.Duals.{IsDual, dual_sum}
use Rattle.simplex_rules.specs.Tableaus.{Generator, Held, Tableau, generators, objective_line, slacks_from, multipliers}
use Rattle.simplex_rules.specs.PivotRule.{opening_at, Least, Ended}

-- the number of a row at its basic place, and its right side
abbrev pub own_of : Held → ℤ
own_of h = entry h.line h.basic

-- the product of the rows' basic numbers and the objective's scale
abbrev pub basic_whole : List Held → ℤ → ℤ
basic_whole [] scale = scale
basic_whole (h ∷ hs) scale = own_of h *ℤ basic_whole hs scale

-- the numbers of the places before any row: minus the whole, the value, and 0
abbrev pub bare_number : ℤ → ℤ → ℕ → ℤ
bare_number scale value zero = neg_ℤ scale
bare_number scale value (suc zero) = value
bare_number scale value (suc (suc j)) = pos 0

-- the numbers of the places: at a basic place the right side times the other rows' numbers
abbrev pub basic_number : List Held → ℤ → ℤ → ℕ → ℤ
basic_number [] scale value j = bare_number scale value j
basic_number (h ∷ hs) scale value j = if j == h.basic then entry h.line 0 *ℤ basic_whole hs scale else (own_of h *ℤ basic_number hs scale value j)

-- the numbers of the columns, over the whole
abbrev pub basic_point : Tableau → ℕ → ℤ
basic_point t e = basic_number t.rows (entry t.objective 1) (entry t.objective 0) (suc (suc e))

abbrev pub point_whole : Tableau → ℤ
point_whole t = basic_whole t.rows (entry t.objective 1)

-- generator k
abbrev pub no_generator : Generator
no_generator = (0, [])

abbrev pub generator_at : List Generator → ℕ → Generator
generator_at [] k = no_generator
generator_at (g ∷ gs) zero = g
generator_at (g ∷ gs) (suc k) = generator_at gs k

-- the lines of the rows, and the mark of line k
abbrev pub lines_of : Program → List Generator
lines_of p = generators p.rows (slacks_from p)

abbrev pub coefficient_at : Program → ℕ → ℕ → ℤ
coefficient_at p k j = coefficient (generator_at (lines_of p) k).1 j

abbrev pub mark_at : Program → ℕ → ℕ
mark_at p k = (generator_at (lines_of p) k).0

abbrev pub cost_of : Program → ℕ → ℤ
cost_of p j = coefficient (objective_line p.costs).1 j

-- one opening alone has the column, with 1, and has its cost
pub record IsCovered (p : Program) (os : List (ℕ × ℕ)) (j : ℕ) : Type 0 where
  pub by : ℕ
  pub below : by < length os
  pub own : coefficient_at p (opening_at os by).0 j ≡ pos 1
  pub others : (k : ℕ) → k < length os → (k ≡ by → ⊥) → coefficient_at p (opening_at os k).0 j ≡ pos 0
  pub cost : cost_of p j ≡ cost_of p (opening_at os by).1

-- the openings are rows that share no column and have each column
pub record Opens (p : Program) (os : List (ℕ × ℕ)) : Type 0 where
  pub rows : (i : ℕ) → i < length os → (opening_at os i).0 < length (lines_of p)
  pub least : (i : ℕ) → i < length os → 2 ≤ (opening_at os i).1
  pub most : (i : ℕ) → i < length os → (opening_at os i).1 < slacks_from p
  pub own : (i : ℕ) → i < length os → coefficient_at p (opening_at os i).0 (opening_at os i).1 ≡ pos 1
  pub apart : (i k : ℕ) → i < length os → k < length os → (i ≡ k → ⊥)
      → coefficient_at p (opening_at os i).0 (opening_at os k).1 ≡ pos 0
  pub covers : (j : ℕ) → 2 ≤ j → j < slacks_from p → IsCovered p os j

-- what a tableau hands out
abbrev pub handed : Program → Tableau → List ℤ
handed p t = multipliers p.rows (slacks_from p) t.objective

-- The theorem. From a right tableau: the multipliers handed out are a dual point of value V/D, and at `Least`
-- the point read off is feasible and has this value.
pub record Answers (p : Program) (x : Ended) : Type 0 where
  pub dual : IsDual p (entry x.tableau.objective 1) (handed p x.tableau)
  pub value : dual_sum p (handed p x.tableau) ≡ entry x.tableau.objective 0
  pub above : pos 1 ≤ℤ point_whole x.tableau
  pub meets : x.end ≡ Least → MeetsAll p (basic_point x.tableau) (point_whole x.tableau)
  pub equal : entry x.tableau.objective 1 *ℤ worth p (basic_point x.tableau) ≡ dual_sum p (handed p x.tableau) *ℤ point_whole x.tableau
