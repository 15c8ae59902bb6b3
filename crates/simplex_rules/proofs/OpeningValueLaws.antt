-- After the opening the dual value is the sum of cost times right side over the openings.
use Rattle.std.proofs.Common.{◌≡◌, ℕ, ℤ, pos, zero, suc, ◌<◌, arith, refl, sym, ap, ◌∙◌, List, [], ◌∷◌, length, ⊎_elim}
use Rattle.std.specs.Prelude.{◌+ℤ◌, ◌-ℤ◌, ◌*ℤ◌, ◌≤ℤ◌, ◌==◌, if◌then◌else◌}
use Rattle.std.proofs.lemmas.Int.{ints}
use Rattle.std.proofs.lemmas.Bool.{cases_eq, eq-eqb, ne_eqb}
use Rattle.whole_numbers.specs.MultipleLaws.{times_times}
use Rattle.ipet_rows.specs.Sums.{total, coefficient, coefficient_of}
use Rattle.ipet_rows.specs.Programs.{Program, IsProgram}
use Rattle.ipet_rows.specs.Firsts.{entry}
use Rattle.ipet_rows.specs.Duals.{dual_sum}
use Rattle.ipet_rows.specs.SumLaws.{total_same, total_plus, total_one, total_nothing, total_first, total_times, term_here, term_elsewhere, times_difference}
use Rattle.simplex_rules.specs.Tableaus.{Generator, Tableau, first_tableau}
use Rattle.simplex_rules.specs.PivotRule.{opening_at, opened, run}
use Rattle.simplex_rules.specs.Promise.{Opens, generator_at, lines_of, coefficient_at, mark_at, cost_of, handed}
use Rattle.simplex_rules.proofs.PromiseLaws.{opening_sum}
use Rattle.simplex_rules.specs.Mixing.{combination}
use Rattle.simplex_rules.specs.MixingLaws.{cancel_at_least}
use Rattle.simplex_rules.specs.FirstLineLaws.{cost_terms_low}
use Rattle.simplex_rules.specs.Opening.{IsOpened}
use Rattle.simplex_rules.proofs.OpeningLemmas.{opening_pays, opening_right}
use Rattle.simplex_rules.specs.OpeningLaws.{opened_is, rows_apart}
use Rattle.simplex_rules.proofs.HandedOutLemmas.{handed_sum}
use Rattle.simplex_rules.specs.Runs.{IsRight}
use Rattle.simplex_rules.proofs.RunLemmas.{run_right}
use Rattle.simplex_rules.proofs.FallingLaws.{run_falls}

-- one part taken out of a sum
total_without : (n b : ℕ) (c : ℕ → ℤ) → b < n → total n c ≡ total n (λ k. if k == b then pos 0 else c k) +ℤ c b
total_without n b c below =
    let each_part : (k : ℕ) → k < n → c k ≡ (if k == b then pos 0 else c k) +ℤ (coefficient_of (b, c b) k *ℤ pos 1) = λ k less. ⊎_elim
    (λ (q : k ≡ b). rw (eq-eqb k b q, term_here b k (c b) (sym q), q) (omega (arith, ints)))
    (λ (d : k ≡ b → ⊥). rw (ne_eqb k b d, term_elsewhere b k (c b) (λ (q : b ≡ k). d (sym q))) (omega (arith, ints)))
    (cases_eq k b) in
    let one : total n (λ e. coefficient_of (b, c b) e *ℤ pos 1) ≡ c b *ℤ pos 1 = total_one n b (c b) (λ e. pos 1) below in
    let plus = total_plus n (λ k. if k == b then pos 0 else c k) (λ k. coefficient_of (b, c b) k *ℤ pos 1) in
    let same = total_same n c (λ k. (if k == b then pos 0 else c k) +ℤ (coefficient_of (b, c b) k *ℤ pos 1)) each_part in
    omega (arith, ints, one, plus, same)

-- a sum over the places that are not 0
total_over : (n m : ℕ) (c : ℕ → ℤ) (row : ℕ → ℕ) → ((i : ℕ) → i < m → row i < n)
    → ((i k : ℕ) → i < m → k < m → (i ≡ k → ⊥) → row i ≡ row k → ⊥)
    → ((k : ℕ) → k < n → ((i : ℕ) → i < m → k ≡ row i → ⊥) → c k ≡ pos 0) → total n c ≡ total m (λ i. c (row i))
total_over n zero c row below apart none = total_nothing n c (λ k less. none k less (λ i few same. absurd (omega arith)))
total_over n (suc m) c row below apart none =
    let b = row m in
    let c' : ℕ → ℤ = λ k. if k == row m then pos 0 else c k in
    let out = total_without n b c (below m (omega arith)) in
    let rest : total n (λ k. if k == row m then pos 0 else c k) ≡ total m (λ i. if row i == row m then pos 0 else c (row i)) =
    total_over n m (λ k. if k == row m then pos 0 else c k) row (λ i less. below i (omega arith)) (λ i k less less' d. apart i k (omega arith) (omega arith) d)
    (λ k less other. ⊎_elim
    (λ (q : k ≡ row m). rw (eq-eqb k b q) refl)
    (λ (d : k ≡ row m → ⊥). rw (ne_eqb k b d) (none k less (λ i few same. ⊎_elim
    (λ (z : i ≡ m). d (rw z at same)) (λ (z : i ≡ m → ⊥). other i (omega arith) same) (cases_eq i m))))
    (cases_eq k b)) in
    let same : total m (λ i. if row i == row m then pos 0 else c (row i)) ≡ total m (λ i. c (row i)) =
    total_same m (λ i. if row i == row m then pos 0 else c (row i)) (λ i. c (row i)) (λ i less. rw (ne_eqb (row i) b (apart i m (omega arith) (omega arith) (λ (z : i ≡ m). absurd (omega arith)))) refl) in
    omega (arith, ints, out, rest, same)

combination_total : (gs : List Generator) (f : ℕ → ℤ) (j : ℕ)
    → combination gs f j ≡ total (length gs) (λ k. f (generator_at gs k).0 *ℤ coefficient (generator_at gs k).1 j)
combination_total [] f j = refl
combination_total (g ∷ gs) f j = omega (arith, ints, combination_total gs f j, total_first (length gs) (λ k. f (generator_at (g ∷ gs) k).0 *ℤ coefficient (generator_at (g ∷ gs) k).1 j))

nothing_times : (u z : ℤ) → u ≡ pos 0 → u *ℤ z ≡ pos 0
nothing_times u z e = rw e (omega (arith, ints))

opened_value : (p : Program) (os : List (ℕ × ℕ)) (t : Tableau) → Opens p os → IsOpened p os (length os) t
    → entry t.objective 0 ≡ entry t.objective 1 *ℤ opening_sum p os
opened_value p os t o x =
    let d = entry t.objective in
    let none : cost_of p 0 ≡ pos 0 = omega (arith, ints, cost_terms_low p.costs 2 0 (omega arith), term_elsewhere 1 0 (pos 1) (λ (z : 1 ≡ 0). absurd (omega arith))) in
    let gone : entry t.objective 1 *ℤ cost_of p 0 ≡ pos 0 = rw none (omega (arith, ints)) in
    let all = combination_total (lines_of p) d 0 in
    let over : total (length (lines_of p)) (λ k. entry t.objective (mark_at p k) *ℤ coefficient_at p k 0) ≡ total (length os) (λ i. entry t.objective (mark_at p (opening_at os i).0) *ℤ coefficient_at p (opening_at os i).0 0) =
    total_over (length (lines_of p)) (length os) (λ k. entry t.objective (mark_at p k) *ℤ coefficient_at p k 0) (λ i. (opening_at os i).0) o.rows (λ i k less less' z. rows_apart p os i k o less less' z)
    (λ k less other. nothing_times (entry t.objective (mark_at p k)) (coefficient_at p k 0) (rw (← x.others k less other) (x.sound.clear k (rw x.count less)))) in
    let paid : total (length os) (λ i. entry t.objective (mark_at p (opening_at os i).0) *ℤ coefficient_at p (opening_at os i).0 0) ≡ total (length os) (λ i. entry t.objective 1 *ℤ ((pos 0 -ℤ cost_of p (opening_at os i).1) *ℤ coefficient_at p (opening_at os i).0 0)) =
    total_same (length os) (λ i. entry t.objective (mark_at p (opening_at os i).0) *ℤ coefficient_at p (opening_at os i).0 0) (λ i. entry t.objective 1 *ℤ ((pos 0 -ℤ cost_of p (opening_at os i).1) *ℤ coefficient_at p (opening_at os i).0 0))
    (λ i less.
    let pays = opening_pays p os t i o x less in
    let e : entry t.objective (mark_at p (opening_at os i).0) ≡ entry t.objective 1 *ℤ (pos 0 -ℤ cost_of p (opening_at os i).1) = omega (arith, ints, pays, times_difference (entry t.objective 1) (pos 0) (cost_of p (opening_at os i).1)) in
    ap (λ (z : ℤ). z *ℤ coefficient_at p (opening_at os i).0 0) e ∙ times_times (entry t.objective 1) (pos 0 -ℤ cost_of p (opening_at os i).1) (coefficient_at p (opening_at os i).0 0)) in
    let out = total_times (length os) (entry t.objective 1) (λ i. (pos 0 -ℤ cost_of p (opening_at os i).1) *ℤ coefficient_at p (opening_at os i).0 0) in
    omega (arith, ints, x.sound.spans_objective.is 0, gone, all, over, paid, out)

-- the dual value handed out is at most the sum over the openings
pub rule_most : (p : Program) (os : List (ℕ × ℕ)) (n : ℕ) → IsProgram p → Opens p os
    → dual_sum p (handed p (run p n 0 (opened os (length os) (first_tableau p))).tableau) ≤ℤ (opening_sum p os *ℤ entry (run p n 0 (opened os (length os) (first_tableau p))).tableau.objective 1)
rule_most p os n is o =
    let t = opened os (length os) (first_tableau p) in
    let r = opening_right p os is o in
    let right : IsRight p (opened os (length os) (first_tableau p)) = record { sound = r.0; rising = r.1 } in
    let x = run p n 0 t in
    let falls = run_falls p n 0 t right in
    let value = opened_value p os t o (opened_is p os (length os) is o (omega arith)) in
    let sum = handed_sum p x.tableau.objective (run_right p n 0 t right).right.sound.spans_objective in
    let d0 = entry t.objective 1 in
    let d1 = entry x.tableau.objective 1 in
    let v1 = entry x.tableau.objective 0 in
    let s = opening_sum p os in
    let one : (v1 *ℤ d0) ≤ℤ (entry t.objective 0 *ℤ d1) = falls.0 in
    let two : entry t.objective 0 *ℤ d1 ≡ d0 *ℤ (s *ℤ d1) = ap (λ (z : ℤ). z *ℤ d1) value ∙ times_times d0 s d1 in
    let three : v1 *ℤ d0 ≡ d0 *ℤ v1 = omega (arith, ints) in
    let four = times_difference d0 (s *ℤ d1) v1 in
    let five : pos 0 ≤ℤ ((s *ℤ d1) -ℤ v1) = cancel_at_least d0 ((s *ℤ d1) -ℤ v1) right.sound.scale (omega (arith, ints, one, two, three, four)) in
    rw sum (omega (arith, ints, five))
