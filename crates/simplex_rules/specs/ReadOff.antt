-- The point that a tableau hands out, a fraction for each column.
--   IsReadOff p t point    each fraction is the number of the tableau's point over its whole
use Rattle.std.proofs.Common.{◌≡◌, ℕ, suc, ℤ, List, [], ◌∷◌}
use Rattle.std.specs.Prelude.{◌*ℤ◌}
use Rattle.ipet_rows.specs.Programs.{Program}
use Rattle.ipet_rows.specs.Points.{worth}
use Rattle.ipet_rows.specs.Firsts.{entry}
use Rattle.ipet_rows.specs.Fractions.{whole_of, part_of, IsPoint, IsFeasible}
use Rattle.ipet_rows.specs.Duals.{dual_sum}
use Rattle.simplex_rules.specs.Tableaus.{Tableau}
use Rattle.simplex_rules.specs.PivotRule.{Ended}
use Rattle.simplex_rules.specs.Promise.{basic_point, point_whole, handed}

-- each fraction is the number of the point over the whole
abbrev pub AreParts : (ℕ → ℤ) → ℤ → List (ℤ × ℤ) → Type 0
AreParts x w [] = Unit {0}
AreParts x w (a ∷ more) = (a.0 *ℤ w ≡ x 0 *ℤ a.1) × AreParts (λ e. x (suc e)) w more

pub record IsReadOff (p : Program) (t : Tableau) (point : List (ℤ × ℤ)) : Type 0 where
  pub is : IsPoint p point
  pub parts : AreParts (basic_point t) (point_whole t) point

-- what a verified end hands out
pub record IsLeastPoint (p : Program) (x : Ended) (point : List (ℤ × ℤ)) : Type 0 where
  pub feasible : IsFeasible p point
  pub worth : entry x.tableau.objective 1 *ℤ worth p (part_of point) ≡ dual_sum p (handed p x.tableau) *ℤ whole_of point
