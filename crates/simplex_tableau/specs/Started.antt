-- What the tableaus of a program's rows show.
--   IsFirst p s             the program's first tableau, in the program's width
--   IsOpenedSo p os m s     the tableau after the first m pivots of the opening
--   IsStarted p os s        the tableau after the opening
use Rattle.std.specs.Prelude.{◌≡◌, ℕ, List}
use Rattle.ipet_rows.specs.Programs.{Program}
use Rattle.simplex_rules.specs.Tableaus.{first_tableau, width_of}
use Rattle.simplex_rules.specs.PivotRule.{opened}
use Rattle.simplex_rules.specs.OpeningPlaces.{opening_places, started}
use Rattle.simplex_tableau.specs.Sparse.{Seen}

-- the program's first tableau
pub record IsFirst (p : Program) (s : Seen) : Type 0 where
  pub width : s.width ≡ width_of p
  pub tableau : s.tableau ≡ first_tableau p

-- the tableau after the first m pivots of the opening
pub record IsOpenedSo (p : Program) (os : List (ℕ × ℕ)) (m : ℕ) (s : Seen) : Type 0 where
  pub width : s.width ≡ width_of p
  pub tableau : s.tableau ≡ opened (opening_places p.rows os) m (first_tableau p)

-- the tableau after the opening
pub record IsStarted (p : Program) (os : List (ℕ × ℕ)) (s : Seen) : Type 0 where
  pub width : s.width ≡ width_of p
  pub tableau : s.tableau ≡ started p os
