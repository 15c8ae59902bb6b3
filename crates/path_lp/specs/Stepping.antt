-- One pivot of the rule.
--   Stands p s           the tableau is one that the rule comes to
--   stepped p r t        the tableau after the pivot of row r, or none where some number of it is wide
--   IsNext p r t new scale y   the next tableau, and what it hands out
use Rattle.std.specs.Prelude.{◌≡◌, ℕ, ℤ, pos, neg_ℤ, List, Option, None, Some, if◌then◌else◌}
use Rattle.ipet_rows.specs.Programs.{Program}
use Rattle.simplex_rules.specs.Tableaus.{Tableau, held_at, width_of}
use Rattle.simplex_rules.specs.PivotRule.{entering, entering_wide, pivot_wide, pivoted, variables_of}
use Rattle.simplex_rules.specs.Runs.{IsRight}
use Rattle.simplex_tableau.specs.Sparse.{Seen}
use Rattle.path_lp.specs.Handing.{IsHanded}

-- the tableau is one that the rule comes to
pub record Stands (p : Program) (s : Seen) : Type 0 where
  pub width : s.width ≡ width_of p
  pub right : IsRight p s.tableau

-- the tableau after the pivot of row r on the place, or none where some number of it is wide
abbrev pub stepped_to : Program → ℕ → Tableau → Option ℕ → Option Tableau
stepped_to p r t None = None
stepped_to p r t (Some e) = if pivot_wide p r e t then None else Some (pivoted (neg_ℤ (pos 1)) r e t)

-- the tableau after the pivot of row r, or none where some number of it is wide
abbrev pub stepped : Program → ℕ → Tableau → Option Tableau
stepped p r t =
    if entering_wide (held_at t.rows r).line t.objective (variables_of p) then None
    else stepped_to p r t (entering (held_at t.rows r).line t.objective (variables_of p))

-- the next tableau, and what it hands out
pub record IsNext (p : Program) (r : ℕ) (t : Tableau) (new : Seen) (scale : ℤ) (y : List ℤ) : Type 0 where
  pub stands : Stands p new
  pub step : stepped p r t ≡ Some new.tableau
  pub handed : IsHanded p new.tableau scale y
