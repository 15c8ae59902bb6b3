-- From what the solver tells to the path bound.
--   handed_count     a multiplier for each row
--   openings_above   the sum over the openings is not negative
--   value_most       the bound is at most that sum
--   value_fits       and so fits 64 bits
--   system_bounds    what bounds each point of the rows
--   system_duals     the multipliers are those that are told
--   system_held      and they hold
--   greatest_at      with `Least` the bound is the greatest worth, rounded down
use Rattle.std.proofs.Common.{◌≡◌, ◌<◌, ◌^◌, ℕ, suc, ℤ, pos, List, [], ◌∷◌, length, refl, ap, sym, ◌∙◌, subst, arith}
use Rattle.std.specs.Prelude.{◌*ℤ◌, ◌≤ℤ◌, ◌<ℤ◌}
use Rattle.std.proofs.lemmas.Int.{ints}
use Rattle.domain_core.specs.Outlines.{Outlined}
use Rattle.flow_facts.specs.declared.fact.Fact.{Fact}
use Rattle.flow_facts.specs.declared.report.BoundWord.{BoundWord}
use Rattle.ipet_rows.specs.Programs.{Row, Program, IsProgram}
use Rattle.ipet_rows.specs.Points.{worth}
use Rattle.ipet_rows.specs.Duals.{IsDual, dual_sum}
use Rattle.ipet_rows.specs.DualityLaws.{weak_duality}
use Rattle.ipet_rows.specs.Verdicts.{floor_of}
use Rattle.ipet_rows.specs.Fractions.{part_of, whole_of}
use Rattle.ipet_rows.specs.PointLaws.{whole_above}
use Rattle.ipet_rows.specs.Firsts.{entry}
use Rattle.ipet_rows.specs.Bounds.{BoundsAll}
use Rattle.dual_check.specs.Systems.{System}
use Rattle.dual_check.specs.Openings.{system_of}
use Rattle.simplex_rules.specs.Tableaus.{Tableau, next_slack, multipliers, slacks_from}
use Rattle.simplex_rules.specs.OpeningPlaces.{ended}
use Rattle.path_lp.specs.declared.solved.SolveEnd.{SolveEnd}
use Rattle.path_lp.specs.declared.solved.SolveEnd.TheVariants.{Wide}
use Rattle.path_lp.specs.Handing.{IsHanded}
use Rattle.path_lp.specs.Solving.{HoldFrom, OnLeast, IsOptimal, opening_worth}
use Rattle.path_lp.specs.Bounding.{word_at, duals_of, told_duals, opening_sum, AreHeld, IsGreatest}
use Rattle.path_lp.proofs.OpeningCostLemmas.{openings_above}
use Rattle.path_lp.proofs.Floors.{floor_most, floor_same, rising_over}

-- ---- multipliers

multiplier_count : (rs : List Row) (s : ℕ) (d : List ℤ) → length (multipliers rs s d) ≡ length rs
multiplier_count [] s d = refl
multiplier_count (r ∷ rs) s d = ap (λ (n : ℕ). suc n) (multiplier_count rs (next_slack r.equation s) d)

-- a multiplier for each row
pub handed_count : (p : Program) (t : Tableau) (scale : ℤ) (y : List ℤ) → IsHanded p t scale y
    → length y ≡ length p.rows
handed_count p t scale y is = ap (λ (z : List ℤ). length z) is.multipliers ∙ multiplier_count p.rows (slacks_from p) t.objective

-- they are those that are told
pub system_duals : (s : System) (o : Outlined) (facts : List Fact) (n : ℕ) (scale : ℤ) (y : List ℤ)
    → s ≡ system_of o facts
    → IsHanded s.program (ended s.program s.openings n).tableau scale y → (scale, y) ≡ told_duals o facts n
system_duals s o facts n scale y is handed =
    let end = ended s.program s.openings n in
    ap (λ (z : ℤ). (z, y)) handed.scale_is ∙ ap (λ (l : List ℤ). (entry end.tableau.objective 1, l)) handed.multipliers
    ∙ ap (λ (z : System). duals_of z.program (ended z.program z.openings n)) is

-- and they hold
pub system_held : (s : System) (o : Outlined) (facts : List Fact) (t : Tableau) (scale : ℤ) (y : List ℤ)
    → s ≡ system_of o facts
    → IsHanded s.program t scale y → pos 1 ≤ℤ scale → HoldFrom s.program scale y → AreHeld (system_of o facts).program scale y
system_held s o facts t scale y is handed above hold =
    subst (λ (z : System). AreHeld z.program scale y) is (record { each = handed_count s.program t scale y handed; scaled = above; hold = hold })

-- ---- sizes

-- the sum over the openings is not negative
sum_above : (s : System) (o : Outlined) (facts : List Fact) → s ≡ system_of o facts
    → pos 0 ≤ℤ opening_worth s.program s.openings
sum_above s o facts is = subst (λ (z : System). pos 0 ≤ℤ opening_worth z.program z.openings) (sym is) (openings_above o facts)

-- the bound is at most that sum
pub value_most : (s : System) (o : Outlined) (facts : List Fact) (scale : ℤ) (y : List ℤ) → s ≡ system_of o facts
    → pos 1 ≤ℤ scale
    → dual_sum s.program y ≤ℤ (opening_worth s.program s.openings *ℤ scale) → pos (floor_of (dual_sum s.program y) scale) ≤ℤ opening_sum o facts
value_most s o facts scale y is above most =
    subst (λ (z : System). pos (floor_of (dual_sum s.program y) scale) ≤ℤ opening_worth z.program z.openings) is
    (floor_most (opening_worth s.program s.openings) (dual_sum s.program y) scale (sum_above s o facts is) above most)

below : (v : ℕ) (w : ℤ) → pos v ≤ℤ w → w <ℤ pos (2 ^ 64) → v < 2 ^ 64
below v w most less = omega (arith, ints, most, less)

-- and so fits 64 bits
pub value_fits : (s : System) (o : Outlined) (facts : List Fact) (scale : ℤ) (y : List ℤ) → s ≡ system_of o facts
    → pos 1 ≤ℤ scale
    → dual_sum s.program y ≤ℤ (opening_worth s.program s.openings *ℤ scale) → opening_sum o facts <ℤ pos (2 ^ 64) → floor_of (dual_sum s.program y) scale < 2 ^ 64
value_fits s o facts scale y is above most room = below (floor_of (dual_sum s.program y) scale) (opening_sum o facts) (value_most s o facts scale y is above most) room

-- ---- points

-- what bounds each point of the rows
pub system_bounds : (s : System) (o : Outlined) (facts : List Fact) (v : ℕ) → s ≡ system_of o facts
    → BoundsAll s.program v v → BoundsAll (system_of o facts).program v v
system_bounds s o facts v is bounds = subst (λ (z : System). BoundsAll z.program v v) is bounds

pub greatest_of : (p : Program) (scale : ℤ) (y : List ℤ) (point : List (ℤ × ℤ)) (v : ℕ) → IsProgram p → IsDual p scale y
    → v ≡ floor_of (dual_sum p y) scale → IsOptimal p scale y point → IsGreatest p v
greatest_of p scale y point v is dual value optimal =
    let whole = whole_above point optimal.is.fractions in
    record {
      point = point;
      is = optimal.is;
      feasible = optimal.feasible;
      floor = value ∙ floor_same (dual_sum p y) scale (worth p (part_of point)) (whole_of point) dual.above whole optimal.cost;
      greatest = λ x w above meets.
          rising_over (dual_sum p y) scale (worth p (part_of point)) (whole_of point) (worth p x) w
          dual.above whole optimal.cost (weak_duality p scale y x w is dual meets);
    }

by_end : (p : Program) (scale : ℤ) (y : List ℤ) (e : SolveEnd) (v : ℕ) → IsProgram p → IsDual p scale y
    → v ≡ floor_of (dual_sum p y) scale → word_at e ≡ BoundWord.Least
    → OnLeast e (λ point. IsOptimal p scale y point) → IsGreatest p v
by_end p scale y (SolveEnd.Least point) v is dual value least optimal = greatest_of p scale y point.items v is dual value optimal
by_end p scale y (Wide k) v is dual value least optimal = absurd cc
by_end p scale y SolveEnd.Pivots v is dual value least optimal = absurd cc

-- with `Least` the bound is the greatest worth, rounded down
pub greatest_at : (s : System) (o : Outlined) (facts : List Fact) (scale : ℤ) (y : List ℤ) (e : SolveEnd) (v : ℕ) (word : BoundWord)
    → s ≡ system_of o facts → IsProgram s.program → IsDual s.program scale y → v ≡ floor_of (dual_sum s.program y) scale → word ≡ word_at e
    → OnLeast e (λ point. IsOptimal s.program scale y point) → word ≡ BoundWord.Least
    → IsGreatest (system_of o facts).program v
greatest_at s o facts scale y e v word is within dual value told optimal least =
    subst (λ (z : System). IsGreatest z.program v) is (by_end s.program scale y e v within dual value (sym told ∙ least) optimal)
