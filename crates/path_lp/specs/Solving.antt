-- What the solver tells of a run.
--   ShowsEnd p t end e      the end that is told is that of the run
--   IsSolved p x scale y e  the scale, the multipliers and the end are those of the run x
--   HoldFrom p scale y      the test of the multipliers answers `Holds` for each bound from their value on
--   opening_worth p os      the sum over the openings of the column's cost times the row's right side
--   OnLeast e P             it holds of the point, where one is told
--   IsOptimal p scale y point   the point is feasible, and its cost is the dual value
use Rattle.std.specs.Prelude.{◌≡◌, ◌≤◌, ℕ, ℤ, pos, ◌*ℤ◌, List, length}
use Rattle.ipet_rows.specs.Sums.{total}
use Rattle.ipet_rows.specs.Programs.{Program, row_at, cost_at}
use Rattle.ipet_rows.specs.Points.{worth}
use Rattle.ipet_rows.specs.Duals.{dual_sum}
use Rattle.ipet_rows.specs.Verdicts.{floor_of, verdict}
use Rattle.ipet_rows.specs.declared.verdict.Verdict.TheVariants.{Holds}
use Rattle.ipet_rows.specs.Fractions.{IsPoint, IsFeasible, part_of, whole_of}
use Rattle.simplex_rules.specs.Tableaus.{Tableau}
use Rattle.simplex_rules.specs.PivotRule.{RunEnd, TooWide, Ended, opening_at}
use Rattle.simplex_rules.specs.ReadOff.{IsReadOff}
use Rattle.path_lp.specs.declared.solved.SolveEnd.{SolveEnd}
use Rattle.path_lp.specs.declared.solved.SolveEnd.TheVariants.{Wide}
use Rattle.path_lp.specs.Handing.{IsHanded}

-- the end that is told is that of the run
abbrev pub ShowsEnd : Program → Tableau → RunEnd → SolveEnd → Type 0
ShowsEnd p t RunEnd.Least (SolveEnd.Least point) = IsReadOff p t point.items
ShowsEnd p t (TooWide k) (Wide n) = n ≡ k
ShowsEnd p t RunEnd.Pivots SolveEnd.Pivots = Unit {0}
ShowsEnd p t _ _ = ⊥

-- the scale, the multipliers and the end are those of the run
pub record IsSolved (p : Program) (x : Ended) (scale : ℤ) (y : List ℤ) (e : SolveEnd) : Type 0 where
  pub duals : IsHanded p x.tableau scale y
  pub end : ShowsEnd p x.tableau x.end e

-- the test of the multipliers answers `Holds` for each bound from their value on
abbrev pub HoldFrom : Program → ℤ → List ℤ → Type 0
HoldFrom p scale y = (bound : ℕ) → floor_of (dual_sum p y) scale ≤ bound → verdict p scale y bound ≡ Holds (floor_of (dual_sum p y) scale)

-- the sum over the openings of the column's cost times the row's right side
abbrev pub opening_worth : Program → List (ℕ × ℕ) → ℤ
opening_worth p os = total (length os) (λ i. pos (cost_at p.costs (opening_at os i).1) *ℤ (row_at p.rows (opening_at os i).0).right)

-- it holds of the point, where one is told
abbrev pub OnLeast : SolveEnd → (List (ℤ × ℤ) → Type 0) → Type 0
OnLeast (SolveEnd.Least point) P = P point.items
OnLeast _ P = Unit {0}

-- the point is feasible, and its cost is the dual value
pub record IsOptimal (p : Program) (scale : ℤ) (y : List ℤ) (point : List (ℤ × ℤ)) : Type 0 where
  pub is : IsPoint p point
  pub feasible : IsFeasible p point
  pub cost : scale *ℤ worth p (part_of point) ≡ dual_sum p y *ℤ whole_of point
