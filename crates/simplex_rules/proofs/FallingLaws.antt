-- The dual value never rises, and after the opening it is the sum of cost times right side over the openings.
use Rattle.std.proofs.Common.{◌≡◌, ℕ, ℤ, pos, negsuc, zero, suc, ◌<◌, arith, refl, sym, ap, ◌∙◌, length, ⊎_elim, Option, Some, None, Bool, true, false}
use Rattle.std.specs.Prelude.{◌-ℤ◌, ◌*ℤ◌, ◌≤ℤ◌, ◌<ℤ◌, neg_ℤ}
use Rattle.std.proofs.lemmas.Int.{ints}
use Rattle.std.proofs.lemmas.Bool.{cases_Bool}
use Rattle.whole_numbers.specs.MultipleLaws.{times_times, difference_times}
use Rattle.ipet_rows.specs.Programs.{Program}
use Rattle.ipet_rows.specs.Firsts.{entry}
use Rattle.ipet_rows.specs.SumLaws.{swap_first, times_difference}
use Rattle.simplex_rules.specs.Tableaus.{Tableau, held_at, number_at, all_lines, width_of, slacks_from}
use Rattle.simplex_rules.specs.PivotRule.{leaving, entering, entering_wide, pivot_wide, pivoted, Ended, variables_of, after_place, after_row, at_limit, run}
use Rattle.simplex_rules.specs.MixingLaws.{cancel_at_least}
use Rattle.simplex_rules.specs.Pivoting.{IsCleared}
use Rattle.simplex_rules.specs.StepLaws.{pivoted_is}
use Rattle.simplex_rules.specs.Choices.{IsEntering, EnteringIs, IsLeaving, NoMore}
use Rattle.simplex_rules.specs.ChoiceLaws.{entering_is, leaving_is, ratio_through}
use Rattle.simplex_rules.specs.HandedOutLaws.{width_above}
use Rattle.simplex_rules.specs.Runs.{IsRight}
use Rattle.simplex_rules.specs.RunLaws.{right_pivot}

by_test : {A : Type 0} (v : Bool) → (v ≡ true → A) → (v ≡ false → A) → A
by_test v one other = ⊎_elim one other (cases_Bool v)

not_below : (a b : ℤ) → pos 0 ≤ℤ a → pos 0 ≤ℤ b → pos 0 ≤ℤ (a *ℤ b)
not_below (pos a) (pos b) p q = omega (arith, ints)
not_below (negsuc a) b p q = absurd (omega (arith, ints))
not_below (pos a) (negsuc b) p q = absurd (omega (arith, ints))

-- the value over the scale does not rise where the pivoted row's right side is at least 0
falling_pivot : (e : ℕ) (f h f' : ℕ → ℤ) → IsCleared e f h f' → pos 1 ≤ℤ h e → pos 0 ≤ℤ h 0 → h 1 ≡ pos 0 → pos 0 ≤ℤ f e
    → pos 1 ≤ℤ f 1 → NoMore (f' 0) (f' 1) (f 0) (f 1)
falling_pivot e f h f' c above right flat rising scale =
    let g = c.g in
    let a = c.a in
    let b = c.b in
    let factor = c.mixed.factor in
    let be : pos 0 ≤ℤ (h e *ℤ c.b) = omega (arith, ints, c.even, not_below c.a (f e) (omega (arith, ints, factor)) rising) in
    let b_least : pos 0 ≤ℤ c.b = cancel_at_least (h e) c.b above be in
    let gone : c.b *ℤ h 1 ≡ pos 0 = rw flat (omega (arith, ints)) in
    let scale_is : c.g *ℤ f' 1 ≡ c.a *ℤ f 1 = omega (arith, ints, c.mixed.is 1, gone) in
    let x1 : c.g *ℤ (f 0 *ℤ f' 1) ≡ c.a *ℤ (f 0 *ℤ f 1) = swap_first g (f 0) (f' 1) ∙ ap (λ (t : ℤ). f 0 *ℤ t) scale_is ∙ swap_first (f 0) a (f 1) in
    let y1 : c.g *ℤ (f' 0 *ℤ f 1) ≡ (c.a *ℤ (f 0 *ℤ f 1)) -ℤ ((c.b *ℤ h 0) *ℤ f 1) =
    sym (times_times g (f' 0) (f 1)) ∙ ap (λ (t : ℤ). t *ℤ f 1) (c.mixed.is 0) ∙ difference_times (a *ℤ f 0) (b *ℤ h 0) (f 1)
    ∙ ap (λ (t : ℤ). t -ℤ ((b *ℤ h 0) *ℤ f 1)) (times_times a (f 0) (f 1)) in
    let extra : pos 0 ≤ℤ ((c.b *ℤ h 0) *ℤ f 1) = not_below (b *ℤ h 0) (f 1) (not_below b (h 0) b_least right) (omega (arith, ints, scale)) in
    let apart_ = times_difference g (f 0 *ℤ f' 1) (f' 0 *ℤ f 1) in
    let bare : pos 0 ≤ℤ ((f 0 *ℤ f' 1) -ℤ (f' 0 *ℤ f 1)) = cancel_at_least g ((f 0 *ℤ f' 1) -ℤ (f' 0 *ℤ f 1)) c.mixed.divisor (omega (arith, ints, x1, y1, extra, apart_)) in
    omega (arith, ints, bare)

-- the value of one tableau is at most that of another
abbrev pub Falls : Tableau → Tableau → Type 0
Falls new old = NoMore (entry new.objective 0) (entry new.objective 1) (entry old.objective 0) (entry old.objective 1)

rule_falls : (p : Program) (t : Tableau) (r e : ℕ) → IsRight p t → r < length t.rows → number_at t r 0 <ℤ pos 0
    → IsEntering (held_at t.rows r).line t.objective (variables_of p) e
    → Falls (pivoted (neg_ℤ (pos 1)) r e t) t
rule_falls p t r e right below negative is =
    let wide = width_above p.rows (slacks_from p) in
    let bound : suc (suc (variables_of p)) ≡ width_of p = omega (arith, wide) in
    let low = is.below in
    let minus : (z : ℤ) → neg_ℤ (pos 1) *ℤ z ≡ neg_ℤ z = λ z. omega (arith, ints) in
    let above : pos 1 ≤ℤ (neg_ℤ (pos 1) *ℤ number_at t r e) = omega (arith, ints, minus (number_at t r e), low) in
    let v = pivoted_is (all_lines p) (width_of p) t r e (neg_ℤ (pos 1)) right.sound below refl above in
    falling_pivot e (entry t.objective) (number_at (pivoted (neg_ℤ (pos 1)) r e t) r) (entry (pivoted (neg_ℤ (pos 1)) r e t).objective) v.objective v.above
    (omega (arith, ints, v.row 0, minus (number_at t r 0), negative))
    (v.row 1 ∙ minus (number_at t r 1) ∙ ap neg_ℤ (right.sound.flat r below))
    (right.rising.is e is.least (omega (arith, is.most))) right.sound.scale

place_falls : (p : Program) (made r : ℕ) (t : Tableau) (go_on : Tableau → Ended) (o : Option ℕ) → IsRight p t
    → r < length t.rows → number_at t r 0 <ℤ pos 0
    → EnteringIs (held_at t.rows r).line t.objective (variables_of p) o → ((t' : Tableau) → IsRight p t' → Falls (go_on t').tableau t' × (pos 1 ≤ℤ entry (go_on t').tableau.objective 1)) → Falls (after_place p made r t go_on o).tableau t × (pos 1 ≤ℤ entry (after_place p made r t go_on o).tableau.objective 1)
place_falls p made r t go_on None right below negative is later = (omega (arith, ints), right.sound.scale)
place_falls p made r t go_on (Some e) right below negative is later = by_test (pivot_wide p r e t)
    (λ (yes_ : pivot_wide p r e t ≡ true). rw yes_ (let z : Falls t t = omega (arith, ints) in (z, right.sound.scale)))
    (λ (no_ : pivot_wide p r e t ≡ false). rw no_
    (let t' = pivoted (neg_ℤ (pos 1)) r e t in
    let right' = right_pivot p t r e right below is in
    let rest = later t' right' in (
      ratio_through (entry (go_on t').tableau.objective 0) (entry (go_on t').tableau.objective 1) (entry t'.objective 0) (entry t'.objective 1) (entry t.objective 0) (entry t.objective 1)
          rest.1 right'.sound.scale right.sound.scale rest.0 (rule_falls p t r e right below negative is),
      rest.1,
    )))

row_falls : (p : Program) (made : ℕ) (t : Tableau) (go_on : Tableau → Ended) (o : Option ℕ) → IsRight p t
    → IsLeaving t (length t.rows) o
    → ((t' : Tableau) → IsRight p t' → Falls (go_on t').tableau t' × (pos 1 ≤ℤ entry (go_on t').tableau.objective 1)) → Falls (after_row p made t go_on o).tableau t × (pos 1 ≤ℤ entry (after_row p made t go_on o).tableau.objective 1)
row_falls p made t go_on None right is later = (omega (arith, ints), right.sound.scale)
row_falls p made t go_on (Some r) right is later =
    let row = (held_at t.rows r).line in
    by_test (entering_wide row t.objective (variables_of p))
    (λ (yes_ : entering_wide row t.objective (variables_of p) ≡ true). rw yes_ (let z : Falls t t = omega (arith, ints) in (z, right.sound.scale)))
    (λ (no_ : entering_wide row t.objective (variables_of p) ≡ false). rw no_
    (place_falls p made r t go_on (entering row t.objective (variables_of p)) right is.0 is.1 (entering_is row t.objective (variables_of p)) later))

limit_falls : (t : Tableau) (o : Option ℕ) → pos 1 ≤ℤ entry t.objective 1
    → Falls (at_limit t o).tableau t × (pos 1 ≤ℤ entry (at_limit t o).tableau.objective 1)
limit_falls t None above = (omega (arith, ints), above)
limit_falls t (Some r) above = (omega (arith, ints), above)

-- the value at the end is at most the value at the start
pub run_falls : (p : Program) (n made : ℕ) (t : Tableau) → IsRight p t
    → Falls (run p n made t).tableau t × (pos 1 ≤ℤ entry (run p n made t).tableau.objective 1)
run_falls p zero made t right = limit_falls t (leaving t) right.sound.scale
run_falls p (suc n) made t right = row_falls p made t (run p n (suc made)) (leaving t) right (leaving_is t) (run_falls p n (suc made))
