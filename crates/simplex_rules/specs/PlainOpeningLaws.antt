-- Laws of plain opening.
--   plain_opening       so it is
--   cleared_plain   a line freed of a place by a row that has 1 there, where one of its numbers stays 1
--   line_other      another line's mark
use Rattle.std.proofs.Common.{inl, inr, ◌≡◌, ◌<◌, ◌≤◌, ◌+◌, ℕ, zero, suc, ℤ, pos, List, length, refl, ap, sym, ◌∙◌, subst, arith}
use Rattle.std.specs.Prelude.{◌-ℤ◌, ◌*ℤ◌, ◌≤ℤ◌}
use Rattle.std.specs.Int.{int_div_euclid}
use Rattle.std.proofs.lemmas.Int.{ints}
use Rattle.std.proofs.lemmas.Bool.{cases_eq}
use Rattle.whole_numbers.specs.Numbers.{Divides, gcd}
use Rattle.whole_numbers.specs.GcdLaws.{gcd_first, gcd_second}
use Rattle.whole_numbers.specs.DivisionLaws.{divides_at_most}
use Rattle.ipet_rows.specs.Sums.{total}
use Rattle.ipet_rows.specs.Programs.{Program, IsProgram, IsWithin}
use Rattle.ipet_rows.specs.Firsts.{entry}
use Rattle.ipet_rows.specs.SumLaws.{total_nothing, term_here}
use Rattle.simplex_rules.specs.Lines.{times_line, mixed, line_gcd, divided, cleared}
use Rattle.simplex_rules.specs.Tableaus.{Held, Tableau, held_at, number_at, objective_line, cost_terms, slacks_from, width_of, first_tableau}
use Rattle.simplex_rules.specs.PivotRule.{pivoted, opening_at, opened}
use Rattle.simplex_rules.specs.Promise.{generator_at, lines_of, coefficient_at, mark_at, cost_of, Opens}
use Rattle.simplex_rules.specs.StepLaws.{exact, divisor_above, line_gcd_least, line_gcd_divides, entry_times, entry_mixed, entry_divided, first_gcd_above, exchanged_count, exchanged_there, exchanged_other}
use Rattle.simplex_rules.specs.FirstLineLaws.{cost_terms_low}
use Rattle.simplex_rules.specs.HandedOutLaws.{width_above}
use Rattle.simplex_rules.specs.FirstTableau.{IsOwn, AreMarked}
use Rattle.simplex_rules.specs.FirstTableauLaws.{spread_is, marked, held_count, held_is, own_at, mark_least, marks_apart, within_costs, within_more}
use Rattle.simplex_rules.specs.OpeningLaws.{rows_apart}
use Rattle.simplex_rules.specs.PlainOpening.{freed_of, IsPlain}

-- ---- one line

one_divisor : (d : ℤ) → pos 0 ≤ℤ d → Divides d (pos 1) → d ≡ pos 1
one_divisor d least m =
    let above = divisor_above d (pos 1) least m (omega (arith, ints)) in
    let most = divides_at_most d (pos 1) m (omega (arith, ints)) least in
    omega (arith, ints, above, most)

by_one : (g a z : ℤ) → g ≡ pos 1 → g *ℤ a ≡ z → a ≡ z
by_one g a z one is = let plain : pos 1 *ℤ a ≡ z = subst (λ (k : ℤ). k *ℤ a ≡ z) one is in omega (arith, ints, plain)

-- a line freed of a place by a row that has 1 there, where one of its numbers stays 1
pub cleared_plain : (e s : ℕ) (h f : List ℤ) → entry h e ≡ pos 1 → entry f s ≡ pos 1 → entry h s ≡ pos 0 → (j : ℕ)
    → entry (cleared e h f) j ≡ entry f j -ℤ (entry f e *ℤ entry h j)
cleared_plain e s h f one own none j =
    let g = gcd (entry h e) (entry f e) in
    let a = int_div_euclid (entry h e) g in
    let b = int_div_euclid (entry f e) g in
    let above : pos 1 ≤ℤ entry h e = omega (arith, ints, one) in
    let g_above : pos 1 ≤ℤ g = first_gcd_above (entry h e) (entry f e) above in
    let g_one : g ≡ pos 1 = one_divisor g (omega (arith, ints, g_above)) (subst (λ (z : ℤ). Divides g z) one (gcd_first (entry h e) (entry f e))) in
    let a_one : a ≡ pos 1 = by_one g a (entry h e) g_one (exact g (entry h e) g_above (gcd_first (entry h e) (entry f e))) ∙ one in
    let b_is : b ≡ entry f e = by_one g b (entry f e) g_one (exact g (entry f e) g_above (gcd_second (entry h e) (entry f e))) in
    let m = mixed a b f h in
    let number : (i : ℕ) → entry m i ≡ entry f i -ℤ (entry f e *ℤ entry h i) = λ i.
    entry_mixed a b f h i ∙ ap (λ (z : ℤ). (z *ℤ entry f i) -ℤ (b *ℤ entry h i)) a_one ∙ ap (λ (z : ℤ). (pos 1 *ℤ entry f i) -ℤ (z *ℤ entry h i)) b_is
    ∙ (let u : (pos 1 *ℤ entry f i) -ℤ (entry f e *ℤ entry h i) ≡ entry f i -ℤ (entry f e *ℤ entry h i) = omega (arith, ints) in u) in
    let nothing : entry f e *ℤ entry h s ≡ pos 0 = ap (λ (z : ℤ). entry f e *ℤ z) none ∙ (let u : entry f e *ℤ pos 0 ≡ pos 0 = omega (arith, ints) in u) in
    let stays : entry m s ≡ pos 1 = omega (arith, ints, number s, own, nothing) in
    let l_one : line_gcd m ≡ pos 1 = one_divisor (line_gcd m) (line_gcd_least m) (subst (λ (z : ℤ). Divides (line_gcd m) z) stays (line_gcd_divides m s)) in
    let l_above : pos 1 ≤ℤ line_gcd m = omega (arith, ints, l_one) in
    by_one (line_gcd m) (entry (divided (line_gcd m) m) j) (entry m j) l_one (entry_divided (line_gcd m) m j l_above (line_gcd_divides m)) ∙ number j

-- ---- the first tableau

lines_marked : (p : Program) → IsProgram p → AreMarked (slacks_from p) (width_of p) (slacks_from p) (lines_of p)
lines_marked p is = marked p.rows (length p.costs) (slacks_from p) (width_of p) is (omega arith) (omega arith)

pub line_own : (p : Program) (k : ℕ) → IsProgram p → k < length (lines_of p)
    → IsOwn (slacks_from p) (width_of p) (generator_at (lines_of p) k)
line_own p k is below = own_at (slacks_from p) (width_of p) (slacks_from p) (lines_of p) k (lines_marked p is) below

-- another line's mark
pub line_other : (p : Program) (k i : ℕ) → IsProgram p → k < length (lines_of p) → i < length (lines_of p) → (k ≡ i → ⊥)
    → coefficient_at p k (mark_at p i) ≡ pos 0
line_other p k i is below other apart =
    let n = slacks_from p in
    let m = lines_marked p is in
    (line_own p k is below).others (mark_at p i) (mark_least n (width_of p) n (lines_of p) i m other) (marks_apart n (width_of p) n (lines_of p) k i m below other apart)

first_number : (p : Program) (k : ℕ) → IsProgram p → k < length (lines_of p) → (j : ℕ)
    → number_at (first_tableau p) k j ≡ coefficient_at p k j
first_number p k is below j =
    ap (λ (h : Held). entry h.line j) (held_is (width_of p) (lines_of p) k below) ∙ spread_is (width_of p) (generator_at (lines_of p) k).1 j (line_own p k is below).within

first_objective : (p : Program) (j : ℕ) → entry (first_tableau p).objective j ≡ cost_of p j
first_objective p j =
    let wide : slacks_from p ≤ width_of p = width_above p.rows (slacks_from p) in
    let o = (objective_line p.costs).1 in
    let costs : IsWithin (slacks_from p) (cost_terms p.costs 2) = (let q : 2 + length p.costs ≡ slacks_from p = omega arith in subst (λ (k : ℕ). IsWithin k (cost_terms p.costs 2)) q (within_costs p.costs 2)) in
    let first : IsWithin (slacks_from p) (objective_line p.costs).1 = (omega arith, costs) in
    spread_is (width_of p) o j (within_more (slacks_from p) (width_of p) o first wide)

pub cost_scale : (p : Program) → cost_of p 1 ≡ pos 1
cost_scale p = omega (arith, ints, term_here 1 1 (pos 1) refl, cost_terms_low p.costs 2 1 (omega arith))

-- ---- the opening

pub times_none : (u z : ℤ) → z ≡ pos 0 → u *ℤ z ≡ pos 0
times_none u z e = rw e (omega (arith, ints))

module _ (p : Program) (os : List (ℕ × ℕ)) (is : IsProgram p) (o : Opens p os) where
  abbrev row_of : ℕ → ℕ
  row_of i = (opening_at os i).0

  abbrev place_of : ℕ → ℕ
  place_of i = (opening_at os i).1

  -- a line freed of one place more, where one of its numbers stays 1
  freed_more : (m q : ℕ) (g : ℕ → ℤ) (f h : List ℤ) → m < length os
      → ((j : ℕ) → entry h j ≡ coefficient_at p (row_of m) j) → ((j : ℕ) → entry f j ≡ freed_of p os g m j)
      → g q ≡ pos 1 → ((i : ℕ) → i < length os → coefficient_at p (row_of i) q ≡ pos 0) → (j : ℕ) → entry (cleared (place_of m) h f) j ≡ freed_of p os g (suc m) j
  freed_more m q g f h below h_is f_is one none j =
      let e = place_of m in
      let flat : total m (λ i. g (place_of i) *ℤ coefficient_at p (row_of i) q) ≡ pos 0 =
      total_nothing m (λ i. g (place_of i) *ℤ coefficient_at p (row_of i) q) (λ i low. times_none (g (place_of i)) (coefficient_at p (row_of i) q) (none i (omega (arith, low, below)))) in
      let stays : entry f q ≡ pos 1 = omega (arith, ints, f_is q, one, flat) in
      let apart : total m (λ i. g (place_of i) *ℤ coefficient_at p (row_of i) e) ≡ pos 0 =
      total_nothing m (λ i. g (place_of i) *ℤ coefficient_at p (row_of i) e)
      (λ i low. times_none (g (place_of i)) (coefficient_at p (row_of i) e) (o.apart i m (omega (arith, low, below)) below (λ same. omega (arith, low, same)))) in
      let here : entry f e ≡ g e = omega (arith, ints, f_is e, apart) in
      let freed = cleared_plain e q h f (h_is e ∙ o.own m below) stays (h_is q ∙ none m below) j in
      let product : entry f e *ℤ entry h j ≡ g e *ℤ coefficient_at p (row_of m) j = ap (λ (z : ℤ). z *ℤ entry h j) here ∙ ap (λ (z : ℤ). g e *ℤ z) (h_is j) in
      omega (arith, ints, freed, product, f_is j)

  plain_step : (m : ℕ) (t : Tableau) → m < length os → IsPlain p os m t
      → IsPlain p os (suc m) (pivoted (pos 1) (row_of m) (place_of m) t)
  plain_step m t below plain =
      let r = row_of m in
      let e = place_of m in
      let h = times_line (pos 1) (held_at t.rows r).line in
      let count = plain.count in
      let r_low = o.rows m below in
      let r_row : r < length t.rows = omega (arith, count, r_low) in
      let h_is : (j : ℕ) → entry h j ≡ coefficient_at p r j = λ j.
      entry_times (pos 1) (held_at t.rows r).line j ∙ (let u : pos 1 *ℤ number_at t r j ≡ number_at t r j = omega (arith, ints) in u) ∙ plain.rows m below j in
      let new_row : (i : ℕ) → i < length os → (j : ℕ) → number_at (pivoted (pos 1) r e t) (row_of i) j ≡ coefficient_at p (row_of i) j = λ i low j. elim (cases_eq i m) [
        | inl same ↦ rw same (ap (λ (x : Held). entry x.line j) (exchanged_there r e h t.rows r_row) ∙ h_is j)
        | inr other ↦
            let apart : row_of i ≡ r → ⊥ = rows_apart p os i m o low below other in
            let i_low = o.rows i low in
            let f = (held_at t.rows (row_of i)).line in
            let f_is = plain.rows i low in
            let own : entry f (mark_at p (row_of i)) ≡ pos 1 = f_is (mark_at p (row_of i)) ∙ (line_own p (row_of i) is i_low).own in
            let none : entry h (mark_at p (row_of i)) ≡ pos 0 = h_is (mark_at p (row_of i)) ∙ line_other p r (row_of i) is r_low i_low (λ same. apart (sym same)) in
            let gone : entry f e ≡ pos 0 = f_is e ∙ o.apart i m low below other in
            let nothing : entry f e *ℤ entry h j ≡ pos 0 = ap (λ (z : ℤ). z *ℤ entry h j) gone ∙ (let u : pos 0 *ℤ entry h j ≡ pos 0 = omega (arith, ints) in u) in
            let freed = cleared_plain e (mark_at p (row_of i)) h f (h_is e ∙ o.own m below) own none j in
            let number : entry (cleared e h f) j ≡ coefficient_at p (row_of i) j = omega (arith, ints, freed, nothing, f_is j) in
            ap (λ (x : Held). entry x.line j) (exchanged_other r e h t.rows (row_of i) (omega (arith, count, i_low)) apart) ∙ number
      ] in
      record {
        count = exchanged_count r e h t.rows ∙ plain.count;
        rows = new_row;
        others = λ k low apart j.
            ap (λ (x : Held). entry x.line j) (exchanged_other r e h t.rows k (omega (arith, count, low)) (apart m below))
            ∙ freed_more m (mark_at p k) (coefficient_at p k) (held_at t.rows k).line h below h_is (plain.others k low apart) (line_own p k is low).own
            (λ i less. line_other p (row_of i) k is (o.rows i less) low (λ same. apart i less (sym same))) j;
        objective = freed_more m 1 (cost_of p) t.objective h below h_is plain.objective (cost_scale p) (λ i less. (line_own p (row_of i) is (o.rows i less)).flat);
      }

  -- after each of the opening's pivots
  pub plain_opening : (m : ℕ) → m ≤ length os → IsPlain p os m (opened os m (first_tableau p))
  plain_opening zero low = record {
    count = held_count (width_of p) (lines_of p);
    rows = λ i below j. first_number p (row_of i) is (o.rows i below) j;
    others = λ k below apart j. (let none : coefficient_at p k j ≡ coefficient_at p k j -ℤ pos 0 = omega (arith, ints) in first_number p k is below j ∙ none);
    objective = λ j. (let none : cost_of p j ≡ cost_of p j -ℤ pos 0 = omega (arith, ints) in first_objective p j ∙ none);
  }
  plain_opening (suc m) low = plain_step m (opened os m (first_tableau p)) (omega arith) (plain_opening m (omega arith))
