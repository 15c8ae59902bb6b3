-- The path bound, and what is promised of it.
--   word_of end           the word of a run's end: least where it is `Least`
--   word_at end           the word of the end that the solver tells
--   bound_of p x          the dual value of the last tableau's multipliers, rounded down, and the word of the end
--   duals_of p x          what the last tableau hands out: the scale, and the multipliers
--   told_path_bound o facts n, told_duals o facts n   those of the rows of an outline and facts, after n pivots at most
--   AreHeld p scale y     there is a multiplier for each row, and the test answers that they hold
--   opening_sum o facts   the sum over the openings of the column's cost times the row's right side
--   IsAbove o facts v     no point that meets the rows, and no run that meets the facts, passes the value
--   IsGreatest p v        the value is the greatest worth of a point that meets the rows, rounded down
use Rattle.std.specs.Prelude.{◌≡◌, ◌≤◌, ℕ, ℤ, pos, ◌*ℤ◌, ◌≤ℤ◌, Bool, List, ◌∷◌, length, reverse}
use Rattle.domain_core.specs.Outlines.{Outlined, shape_of}
use Rattle.flow_facts.specs.declared.fact.Fact.{Fact}
use Rattle.flow_facts.specs.declared.report.BoundWord.{BoundWord}
use Rattle.flow_facts.specs.declared.report.BoundWord.TheVariants.{Stopped}
use Rattle.ipet_rows.specs.Programs.{Program}
use Rattle.ipet_rows.specs.Points.{MeetsAll, worth}
use Rattle.ipet_rows.specs.Uses.{IsEnded, run_cost}
use Rattle.ipet_rows.specs.Shaped.{FitOutline}
use Rattle.ipet_rows.specs.Feasible.{MeetFacts}
use Rattle.ipet_rows.specs.Firsts.{entry}
use Rattle.ipet_rows.specs.Duals.{dual_sum}
use Rattle.ipet_rows.specs.Verdicts.{floor_of}
use Rattle.ipet_rows.specs.Fractions.{IsPoint, IsFeasible, part_of, whole_of}
use Rattle.ipet_rows.specs.Bounds.{BoundsAll}
use Rattle.dual_check.specs.Openings.{costs_of, system_of}
use Rattle.simplex_rules.specs.PivotRule.{RunEnd, TooWide, Ended}
use Rattle.simplex_rules.specs.Promise.{handed}
use Rattle.simplex_rules.specs.OpeningPlaces.{ended}
use Rattle.path_lp.specs.declared.solved.SolveEnd.{SolveEnd}
use Rattle.path_lp.specs.declared.solved.SolveEnd.TheVariants.{Wide}
use Rattle.path_lp.specs.Solving.{HoldFrom, opening_worth}

-- the word of a run's end
abbrev pub word_of : RunEnd → BoundWord
word_of RunEnd.Least = BoundWord.Least
word_of (TooWide k) = Stopped
word_of RunEnd.Pivots = Stopped

-- the word of the end that the solver tells
abbrev pub word_at : SolveEnd → BoundWord
word_at (SolveEnd.Least point) = BoundWord.Least
word_at (Wide k) = Stopped
word_at SolveEnd.Pivots = Stopped

-- the dual value of the last tableau's multipliers, rounded down, and the word of the end
abbrev pub bound_of : Program → Ended → ℕ × BoundWord
bound_of p x = (floor_of (dual_sum p (handed p x.tableau)) (entry x.tableau.objective 1), word_of x.end)

-- that of the rows of an outline and facts, after n pivots at most
abbrev pub told_path_bound : Outlined → List Fact → ℕ → ℕ × BoundWord
told_path_bound o facts n = bound_of (system_of o facts).program (ended (system_of o facts).program (system_of o facts).openings n)

-- what the last tableau hands out: the scale, and the multipliers
abbrev pub duals_of : Program → Ended → ℤ × List ℤ
duals_of p x = (entry x.tableau.objective 1, handed p x.tableau)

-- those of the rows of an outline and facts, after n pivots at most
abbrev pub told_duals : Outlined → List Fact → ℕ → ℤ × List ℤ
told_duals o facts n = duals_of (system_of o facts).program (ended (system_of o facts).program (system_of o facts).openings n)

-- there is a multiplier for each row, and the test answers that they hold, for each bound from their value on
pub record AreHeld (p : Program) (scale : ℤ) (y : List ℤ) : Type 0 where
  pub each : length y ≡ length p.rows
  pub scaled : pos 1 ≤ℤ scale
  pub hold : HoldFrom p scale y

-- the sum over the openings of the column's cost times the row's right side
abbrev pub opening_sum : Outlined → List Fact → ℤ
opening_sum o facts = opening_worth (system_of o facts).program (system_of o facts).openings

-- no point that meets the rows, and no run that meets the facts, passes the value
pub record IsAbove (o : Outlined) (facts : List Fact) (v : ℕ) : Type 0 where
  pub points : BoundsAll (system_of o facts).program v v
  pub runs : (fault : Bool) (k : ℕ) (past : List ℕ) → IsEnded (shape_of o) facts fault (k ∷ past)
      → FitOutline (shape_of o) facts
      → MeetFacts (shape_of o) (reverse (k ∷ past)) facts → run_cost (costs_of o) (k ∷ past) ≤ v

-- the value is the greatest worth of a point that meets the rows, rounded down
pub record IsGreatest (p : Program) (v : ℕ) : Type 0 where
  pub point : List (ℤ × ℤ)
  pub is : IsPoint p point
  pub feasible : IsFeasible p point
  pub floor : v ≡ floor_of (worth p (part_of point)) (whole_of point)
  pub greatest : (x : ℕ → ℤ) (w : ℤ) → pos 1 ≤ℤ w → MeetsAll p x w
      → (worth p x *ℤ whole_of point) ≤ℤ (worth p (part_of point) *ℤ w)
