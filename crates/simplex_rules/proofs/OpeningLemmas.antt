-- Laws of opening.
--   opening_pays    the number at an opening's mark pays for its columns
--   opening_right   the opening makes a right tableau
use Rattle.std.proofs.Common.{◌≡◌, ℕ, ℤ, pos, negsuc, zero, suc, ◌+◌, ◌-◌, ◌<◌, ◌≤◌, arith, sym, ap, ◌∙◌, List, length, ⊎_elim, ◌⊎◌, inl, inr}
use Rattle.std.specs.Prelude.{◌+ℤ◌, ◌-ℤ◌, ◌*ℤ◌, ◌≤ℤ◌, neg_ℤ}
use Rattle.std.proofs.lemmas.Int.{ints}
use Rattle.std.proofs.lemmas.Bool.{cases_eq, cases_lt}
use Rattle.ipet_rows.specs.Sums.{coefficient}
use Rattle.ipet_rows.specs.Programs.{Program, IsProgram, cost_at}
use Rattle.ipet_rows.specs.Firsts.{entry}
use Rattle.ipet_rows.specs.SumLaws.{term_elsewhere, times_difference}
use Rattle.simplex_rules.specs.Tableaus.{Tableau, cost_terms, slacks_from, all_lines, width_of, first_tableau}
use Rattle.simplex_rules.specs.PivotRule.{opening_at, opened}
use Rattle.simplex_rules.specs.Promise.{lines_of, coefficient_at, mark_at, cost_of, Opens}
use Rattle.simplex_rules.specs.Mixing.{combination}
use Rattle.simplex_rules.specs.Pivoting.{IsSoundTableau}
use Rattle.simplex_rules.specs.FirstLineLaws.{cost_terms_here}
use Rattle.simplex_rules.proofs.FirstTableauLemmas.{cost_past}
use Rattle.simplex_rules.specs.FirstTableauLaws.{marked, own_at}
use Rattle.simplex_rules.specs.HandedOut.{IsRising}
use Rattle.simplex_rules.specs.Opening.{IsOpened}
use Rattle.simplex_rules.specs.OpeningLaws.{combination_none, combination_alone, nothing_times, times_nothing, IsFound, find, opened_is}

-- The objective after the opening.

cost_low : (p : Program) (j : ℕ) → 2 ≤ j → cost_of p j ≤ℤ pos 0
cost_low p j least =
    let q : 2 + (j - 2) ≡ j = omega arith in
    let c : coefficient (cost_terms p.costs 2) j ≡ neg_ℤ (pos (cost_at p.costs (j - 2))) = rw q at (cost_terms_here p.costs 2 (j - 2)) in
    omega (arith, ints, c, term_elsewhere 1 j (pos 1) (λ (z : 1 ≡ j). absurd (omega arith)))

-- at a column of opening i the objective is the column's cost and the number at the opening's mark
objective_column : (p : Program) (os : List (ℕ × ℕ)) (t : Tableau) (i j : ℕ) → Opens p os → IsOpened p os (length os) t
    → i < length os
    → coefficient_at p (opening_at os i).0 j ≡ pos 1 → ((k : ℕ) → k < length os → (k ≡ i → ⊥) → coefficient_at p (opening_at os k).0 j ≡ pos 0)
    → entry t.objective j ≡ (entry t.objective 1 *ℤ cost_of p j) +ℤ entry t.objective (mark_at p (opening_at os i).0)
objective_column p os t i j o x below own others =
    let r = (opening_at os i).0 in
    let d = entry t.objective in
    let alone : combination (lines_of p) (entry t.objective) j ≡ entry t.objective (mark_at p (opening_at os i).0) *ℤ coefficient_at p (opening_at os i).0 j =
    combination_alone (lines_of p) (entry t.objective) j r (o.rows i below) (λ k k_below x'. ⊎_elim
    (λ (f : IsFound os (length os) k). times_nothing (entry t.objective (mark_at p k)) (coefficient_at p k j)
    (rw f.same (others f.at_ f.below (λ (z : f.at_ ≡ i). x' (f.same ∙ ap (λ (n : ℕ). (opening_at os n).0) z)))))
    (λ (none : (i : ℕ) → i < length os → k ≡ (opening_at os i).0 → ⊥). nothing_times (entry t.objective (mark_at p k)) (coefficient_at p k j)
    (rw (← x.others k k_below none) (x.sound.clear k (rw x.count k_below))))
    (find os (length os) k)) in
    let one : entry t.objective (mark_at p (opening_at os i).0) *ℤ coefficient_at p (opening_at os i).0 j ≡ entry t.objective (mark_at p (opening_at os i).0) =
    ap (λ (z : ℤ). entry t.objective (mark_at p r) *ℤ z) own ∙ (let z : entry t.objective (mark_at p r) *ℤ pos 1 ≡ entry t.objective (mark_at p r) = omega (arith, ints) in z) in
    omega (arith, ints, x.sound.spans_objective.is j, alone, one)

-- the number at an opening's mark pays for its columns
pub opening_pays : (p : Program) (os : List (ℕ × ℕ)) (t : Tableau) (i : ℕ) → Opens p os → IsOpened p os (length os) t
    → i < length os
    → pos 0 ≡ (entry t.objective 1 *ℤ cost_of p (opening_at os i).1) +ℤ entry t.objective (mark_at p (opening_at os i).0)
opening_pays p os t i o x below =
    let zero_ : entry t.objective (opening_at os i).1 ≡ pos 0 = rw (← x.bases i below) (x.sound.clear (opening_at os i).0 (rw x.count (o.rows i below))) in
    sym zero_ ∙ objective_column p os t i (opening_at os i).1 o x below (o.own i below) (λ k less d. o.apart k i less below d)

not_below : (a b : ℤ) → pos 0 ≤ℤ a → pos 0 ≤ℤ b → pos 0 ≤ℤ (a *ℤ b)
not_below (pos d) (pos m) p q = omega (arith, ints)
not_below (negsuc d) m p q = absurd (omega (arith, ints))
not_below (pos d) (negsuc m) p q = absurd (omega (arith, ints))

-- the number at each line's mark is at least 0
mark_rising : (p : Program) (os : List (ℕ × ℕ)) (t : Tableau) (k : ℕ) → Opens p os → IsOpened p os (length os) t
    → k < length (lines_of p) → pos 0 ≤ℤ entry t.objective (mark_at p k)
mark_rising p os t k o x below = ⊎_elim
    (λ (f : IsFound os (length os) k).
    let i = f.at_ in
    let pays = opening_pays p os t f.at_ o x f.below in
    let low = cost_low p (opening_at os f.at_).1 (o.least f.at_ f.below) in
    let scale = x.sound.scale in
    let up : pos 0 ≤ℤ (entry t.objective 1 *ℤ (pos 0 -ℤ cost_of p (opening_at os f.at_).1)) = not_below (entry t.objective 1) (pos 0 -ℤ cost_of p (opening_at os f.at_).1) (omega (arith, ints, scale)) (omega (arith, ints, low)) in
    let apart_ = times_difference (entry t.objective 1) (pos 0) (cost_of p (opening_at os f.at_).1) in
    let good : pos 0 ≤ℤ entry t.objective (mark_at p (opening_at os f.at_).0) = omega (arith, ints, pays, up, apart_) in
    rw f.same good)
    (λ (none : (i : ℕ) → i < length os → k ≡ (opening_at os i).0 → ⊥).
    let z : entry t.objective (mark_at p k) ≡ pos 0 = rw (← x.others k below none) (x.sound.clear k (rw x.count below)) in
    omega (arith, ints, z))
    (find os (length os) k)

-- the line with the mark j, if there is one
record HasMark (p : Program) (j n : ℕ) : Type 0 where
  line : ℕ
  below : line < n
  same : j ≡ mark_at p line

find_mark : (p : Program) (j n : ℕ) → HasMark p j n ⊎ ((k : ℕ) → k < n → j ≡ mark_at p k → ⊥)
find_mark p j zero = inr (λ k below same. absurd (omega arith))
find_mark p j (suc n) = ⊎_elim
    (λ (q : j ≡ mark_at p n). inl (record { line = n; below = omega arith; same = q }))
    (λ (d : j ≡ mark_at p n → ⊥). ⊎_elim
    (λ (f : HasMark p j n). inl (record { line = f.line; below = omega (arith, f.below); same = f.same }))
    (λ (none : (k : ℕ) → k < n → j ≡ mark_at p k → ⊥). inr (λ k below same. ⊎_elim
    (λ (q : k ≡ n). d (rw (← q) same)) (λ (x : k ≡ n → ⊥). none k (omega arith) same) (cases_eq k n)))
    (find_mark p j n))
    (cases_eq j (mark_at p n))

-- after the opening the objective's numbers are at least 0
opened_rising : (p : Program) (os : List (ℕ × ℕ)) (t : Tableau) → IsProgram p → Opens p os → IsOpened p os (length os) t
    → IsRising (width_of p) t.objective
opened_rising p os t is o x = record {
  is = λ j least most. ⊎_elim
      (λ (column : j < slacks_from p).
      let c = o.covers j least column in
      let here = objective_column p os t c.by j o x c.below c.own c.others in
      let pays = opening_pays p os t c.by o x c.below in
      let same : entry t.objective 1 *ℤ cost_of p j ≡ entry t.objective 1 *ℤ cost_of p (opening_at os c.by).1 = ap (λ (z : ℤ). entry t.objective 1 *ℤ z) c.cost in
      omega (arith, ints, here, pays, same))
      (λ (slack : slacks_from p ≤ j). ⊎_elim
      (λ (f : HasMark p j (length (lines_of p))). rw f.same (mark_rising p os t f.line o x f.below))
      (λ (none : (k : ℕ) → k < length (lines_of p) → j ≡ mark_at p k → ⊥).
      let m = marked p.rows (length p.costs) (slacks_from p) (width_of p) is (omega arith) (omega arith) in
      let rest : combination (lines_of p) (entry t.objective) j ≡ pos 0 = combination_none (lines_of p) (entry t.objective) j
      (λ k below. times_nothing (entry t.objective (mark_at p k)) (coefficient_at p k j)
      ((own_at (slacks_from p) (width_of p) (slacks_from p) (lines_of p) k m below).others j slack (none k below))) in
      let cost : cost_of p j ≡ pos 0 = cost_past p j slack in
      omega (arith, ints, x.sound.spans_objective.is j, rest, times_nothing (entry t.objective 1) (cost_of p j) cost))
      (find_mark p j (length (lines_of p))))
      (cases_lt j (slacks_from p));
}

-- the opening makes a right tableau
pub opening_right : (p : Program) (os : List (ℕ × ℕ)) → IsProgram p → Opens p os
    → IsSoundTableau (all_lines p) (width_of p) (opened os (length os) (first_tableau p))
    × IsRising (width_of p) (opened os (length os) (first_tableau p)).objective
opening_right p os is o =
    let x = opened_is p os (length os) is o (omega arith) in
    (x.sound, opened_rising p os (opened os (length os) (first_tableau p)) is o x)
