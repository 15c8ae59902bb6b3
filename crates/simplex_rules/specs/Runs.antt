-- Runs of the rule: at each moment the multipliers are a dual point, and at `Least` a feasible point has their value.
use Rattle.ipet_rows.specs.Programs.{Program}
use Rattle.simplex_rules.specs.Tableaus.{Tableau, all_lines, width_of}
use Rattle.simplex_rules.specs.Pivoting.{IsSoundTableau}
use Rattle.simplex_rules.specs.HandedOut.{IsRising}

-- what holds of the tableau at every moment
pub record IsRight (p : Program) (t : Tableau) : Type 0 where
  pub sound : IsSoundTableau (all_lines p) (width_of p) t
  pub rising : IsRising (width_of p) t.objective
