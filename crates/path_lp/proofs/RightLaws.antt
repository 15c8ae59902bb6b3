-- What holds of each path bound that the rule tells.
--   program_of_outline   each row's terms are of the columns
--   dual_bounds          a dual point bounds each point that meets the rows
--   right_at             so the path bound is right
use Rattle.std.proofs.Common.{◌≡◌, ◌≤◌, ℕ, zero, suc, ℤ, pos, negsuc, Bool, List, [], ◌∷◌, length, map, reverse, refl, ap, sym, ◌∙◌, subst, arith}
use Rattle.std.specs.Prelude.{◌+ℤ◌, ◌-ℤ◌, ◌*ℤ◌, ◌≤ℤ◌, ◌<ℤ◌, unsigned_abs}
use Rattle.std.specs.Int.{int_div_euclid, int_rem_euclid, int_max}
use Rattle.std.proofs.lemmas.Int.{ints, clamps}
use Rattle.std.proofs.lemmas.List.{length-map}
use Rattle.whole_numbers.specs.DivisionLaws.{quotient_and_rest, rest_range}
use Rattle.whole_numbers.specs.MultipleLaws.{sum_times, times_times}
use Rattle.domain_core.specs.Outlines.{Outlined, shape_of}
use Rattle.flow_facts.specs.declared.fact.Fact.{Fact}
use Rattle.flow_facts.specs.declared.report.BoundWord.{BoundWord}
use Rattle.ipet_rows.specs.Sums.{total}
use Rattle.ipet_rows.specs.Programs.{Program, IsProgram, IsWithin, row_at, cost_at}
use Rattle.ipet_rows.specs.Points.{MeetsAll, worth}
use Rattle.ipet_rows.specs.Columns.{Column, columns_of}
use Rattle.ipet_rows.specs.Weights.{Weighing, weighings}
use Rattle.ipet_rows.specs.Rows.{row_of, cost_of}
use Rattle.ipet_rows.specs.PathSparseLaws.{terms_within}
use Rattle.ipet_rows.specs.Uses.{IsEnded, run_cost}
use Rattle.ipet_rows.specs.Shaped.{FitOutline}
use Rattle.ipet_rows.specs.Feasible.{MeetFacts}
use Rattle.ipet_rows.specs.Firsts.{entry}
use Rattle.ipet_rows.specs.Duals.{IsDual, dual_sum}
use Rattle.ipet_rows.specs.DualityLaws.{weak_duality, times_rising}
use Rattle.ipet_rows.specs.SumLaws.{times_difference, swap_first}
use Rattle.ipet_rows.specs.Verdicts.{floor_of}
use Rattle.ipet_rows.specs.Fractions.{AreFractions, part_of, whole_of}
use Rattle.ipet_rows.specs.PointLaws.{whole_above, point_meets_all}
use Rattle.ipet_rows.specs.Bounds.{BoundsAll}
use Rattle.dual_check.specs.Openings.{costs_of, system_of}
use Rattle.simplex_rules.specs.MixingLaws.{cancel_above}
use Rattle.simplex_rules.specs.Tableaus.{Tableau}
use Rattle.simplex_rules.specs.PivotRule.{RunEnd, TooWide, Ended, opening_at}
use Rattle.simplex_rules.specs.Promise.{Answers, basic_point, point_whole, handed}
use Rattle.simplex_rules.specs.OpeningPlaces.{OpensRows, ended}
use Rattle.simplex_rules.specs.ReadOff.{AreParts, IsReadOff, IsLeastPoint}
use Rattle.path_lp.specs.Bounding.{word_of, told_path_bound, opening_sum, IsGreatest}
use Rattle.path_lp.specs.Holding.{IsRight}
use Rattle.path_lp.proofs.OpeningCostLemmas.{openings_above}
use Rattle.path_lp.proofs.Floors.{floor_most}
use Rattle.path_lp.proofs.BoundLaws.{greatest_of}

-- ---- the rows of an outline

rows_within : (columns : List Column) (ws : List Weighing) (k : ℕ)
    → IsWithin (length columns) (row_at (map (λ w. row_of columns w) ws) k).terms
rows_within columns [] k = tt
rows_within columns (w ∷ ws) zero = terms_within w.weight 0 (length columns) columns (omega arith)
rows_within columns (w ∷ ws) (suc k) = rows_within columns ws k

-- each row's terms are of the columns
pub program_of_outline : (o : Outlined) (facts : List Fact) → IsProgram (system_of o facts).program
program_of_outline o facts =
    let columns = columns_of (shape_of o) facts in
    let long : length (map (λ c. cost_of (costs_of o) c) columns) ≡ length columns = length-map columns (λ c. cost_of (costs_of o) c) in
    λ k. subst (λ (n : ℕ). IsWithin n (row_at (system_of o facts).program.rows k).terms) (sym long) (rows_within columns (weighings (shape_of o) facts) k)

-- ---- a dual point

floor_step : (sum q r : ℤ) (n : ℕ) → sum ≡ (q *ℤ pos n) +ℤ r → r <ℤ pos n
    → sum <ℤ (pos (suc (unsigned_abs (int_max (pos 0) q))) *ℤ pos n)
floor_step sum (pos q) r n e less =
    let m : int_max (pos 0) (pos q) ≡ pos q = omega (arith, ints, clamps) in
    rw m (omega (arith, ints, e, less, sum_times (pos q) (pos 1) (pos n)))
floor_step sum (negsuc q) r n e less = omega (arith, ints, e, less)

-- a sum is below the number after its quotient
floor_next : (sum scale : ℤ) → pos 1 ≤ℤ scale → sum <ℤ (pos (suc (floor_of sum scale)) *ℤ scale)
floor_next sum (pos zero) above = absurd (omega (arith, ints, above))
floor_next sum (negsuc n) above = absurd (omega (arith, ints, above))
floor_next sum (pos (suc n)) above =
    let range = rest_range sum (suc n) (omega arith) in
    floor_step sum (int_div_euclid sum (pos (suc n))) (int_rem_euclid sum (pos (suc n))) (suc n) (quotient_and_rest sum (suc n) (omega arith)) range.1

-- so is what a point is worth
worth_next : (scale value sum w : ℤ) (v : ℕ) → pos 1 ≤ℤ scale → pos 1 ≤ℤ w → (scale *ℤ value) ≤ℤ (sum *ℤ w)
    → sum <ℤ (pos (suc v) *ℤ scale) → value <ℤ (pos (suc v) *ℤ w)
worth_next scale value sum w v above whole most less =
    let up = pos (suc v) in
    let one : ((sum +ℤ pos 1) *ℤ w) ≤ℤ ((up *ℤ scale) *ℤ w) = times_rising (sum +ℤ pos 1) (up *ℤ scale) w (omega (arith, ints, less)) (omega (arith, ints, whole)) in
    let two = sum_times sum (pos 1) w in
    let three : (up *ℤ scale) *ℤ w ≡ scale *ℤ (up *ℤ w) = times_times up scale w ∙ swap_first up scale w in
    let four = times_difference scale (up *ℤ w) value in
    let five : pos 1 ≤ℤ (scale *ℤ ((up *ℤ w) -ℤ value)) = omega (arith, ints, one, two, three, four, most, whole) in
    let six : pos 1 ≤ℤ ((up *ℤ w) -ℤ value) = cancel_above scale ((up *ℤ w) -ℤ value) above five in
    omega (arith, ints, six)

-- a dual point bounds each point that meets the rows
pub dual_bounds : (p : Program) (scale : ℤ) (y : List ℤ) → IsProgram p → IsDual p scale y
    → BoundsAll p (floor_of (dual_sum p y) scale) (floor_of (dual_sum p y) scale)
dual_bounds p scale y is dual =
    let points : (x : ℕ → ℤ) (w : ℤ) → pos 1 ≤ℤ w → MeetsAll p x w → worth p x <ℤ (pos (suc (floor_of (dual_sum p y) scale)) *ℤ w) =
    λ x w whole meets. worth_next scale (worth p x) (dual_sum p y) w (floor_of (dual_sum p y) scale) dual.above whole (weak_duality p scale y x w is dual meets) (floor_next (dual_sum p y) scale dual.above) in
    record {
      points = points;
      fractions = λ point its feasible. points (part_of point) (whole_of point) (whole_above point its.fractions) (point_meets_all p point its feasible);
      least = omega arith;
    }

-- ---- the point of a tableau

-- the first columns' numbers over one whole
abbrev fractions_of : (ℕ → ℤ) → ℤ → ℕ → List (ℤ × ℤ)
fractions_of x w zero = []
fractions_of x w (suc n) = (x 0, w) ∷ fractions_of (λ e. x (suc e)) w n

fraction_count : (x : ℕ → ℤ) (w : ℤ) (n : ℕ) → length (fractions_of x w n) ≡ n
fraction_count x w zero = refl
fraction_count x w (suc n) = ap (λ (k : ℕ). suc k) (fraction_count (λ e. x (suc e)) w n)

are_fractions : (x : ℕ → ℤ) (w : ℤ) (n : ℕ) → pos 1 ≤ℤ w → ((e : ℕ) → pos 0 ≤ℤ x e) → AreFractions (fractions_of x w n)
are_fractions x w zero whole above = tt
are_fractions x w (suc n) whole above = (above 0, whole, are_fractions (λ e. x (suc e)) w n whole (λ e. above (suc e)))

are_parts : (x : ℕ → ℤ) (w : ℤ) (n : ℕ) → AreParts x w (fractions_of x w n)
are_parts x w zero = tt
are_parts x w (suc n) = (refl, are_parts (λ e. x (suc e)) w n)

-- it can be read off
read_off : (p : Program) (t : Tableau) → pos 1 ≤ℤ point_whole t → ((e : ℕ) → pos 0 ≤ℤ basic_point t e)
    → IsReadOff p t (fractions_of (basic_point t) (point_whole t) (length p.costs))
read_off p t whole above = record {
  is = record {
    columns = fraction_count (basic_point t) (point_whole t) (length p.costs);
    fractions = are_fractions (basic_point t) (point_whole t) (length p.costs) whole above;
  };
  parts = are_parts (basic_point t) (point_whole t) (length p.costs);
}

-- ---- the path bound

least_end : (end : RunEnd) → word_of end ≡ BoundWord.Least → end ≡ RunEnd.Least
least_end RunEnd.Least e = refl
least_end (TooWide k) e = absurd cc
least_end RunEnd.Pivots e = absurd cc

module _ (answers : (p : Program) (os : List (ℕ × ℕ)) (n : ℕ) → IsProgram p → OpensRows p os → Answers p (ended p os n))
    (point : (p : Program) (os : List (ℕ × ℕ)) (n : ℕ) (read : List (ℤ × ℤ)) → IsProgram p → OpensRows p os → (ended p os n).end ≡ RunEnd.Least
    → IsReadOff p (ended p os n).tableau read → IsLeastPoint p (ended p os n) read)
    (most : (p : Program) (os : List (ℕ × ℕ)) (n : ℕ) → IsProgram p → OpensRows p os
    → dual_sum p (handed p (ended p os n).tableau)
    ≤ℤ (total (length os) (λ i. pos (cost_at p.costs (opening_at os i).1) *ℤ (row_at p.rows (opening_at os i).0).right) *ℤ entry (ended p os n).tableau.objective 1)) where
  greatest_at : (p : Program) (os : List (ℕ × ℕ)) (n : ℕ) → IsProgram p → OpensRows p os
      → (ended p os n).end ≡ RunEnd.Least
      → IsGreatest p (floor_of (dual_sum p (handed p (ended p os n).tableau)) (entry (ended p os n).tableau.objective 1))
  greatest_at p os n is opens end =
      let x : Ended = ended p os n in
      let its = answers p os n is opens in
      let read = read_off p x.tableau its.above (its.meets end).columns in
      let fractions = fractions_of (basic_point x.tableau) (point_whole x.tableau) (length p.costs) in
      let told = point p os n fractions is opens end read in
      greatest_of p (entry x.tableau.objective 1) (handed p x.tableau) fractions (floor_of (dual_sum p (handed p x.tableau)) (entry x.tableau.objective 1)) is its.dual refl
      (record { is = read.is; feasible = told.feasible; cost = told.worth })

  -- the path bound is right
  pub right_at : (o : Outlined) (facts : List Fact) (n : ℕ)
      → OpensRows (system_of o facts).program (system_of o facts).openings
      → ((v : ℕ) → BoundsAll (system_of o facts).program v v → (fault : Bool) (k : ℕ) (past : List ℕ) → IsEnded (shape_of o) facts fault (k ∷ past) → FitOutline (shape_of o) facts
      → MeetFacts (shape_of o) (reverse (k ∷ past)) facts → run_cost (costs_of o) (k ∷ past) ≤ v)
      → IsRight o facts n
  right_at o facts n opens runs =
      let p = (system_of o facts).program in
      let os = (system_of o facts).openings in
      let x : Ended = ended p os n in
      let is = program_of_outline o facts in
      let dual = (answers p os n is opens).dual in
      let points = dual_bounds p (entry x.tableau.objective 1) (handed p x.tableau) is dual in
      record {
        above = record { points = points; runs = runs (told_path_bound o facts n).0 points };
        most = floor_most (opening_sum o facts) (dual_sum p (handed p x.tableau)) (entry x.tableau.objective 1) (openings_above o facts) dual.above (most p os n is opens);
        least = λ word. greatest_at p os n is opens (least_end x.end word);
      }
