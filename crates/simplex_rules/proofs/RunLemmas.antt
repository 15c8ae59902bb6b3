-- Laws of runs.
--   EndsAs           at the end no right side is negative
--   EndsRight        the last tableau is right, and at `Least` no right side is negative
--   rule_answers     The rule from a program and its openings, with any number of pivots.
--   least_greatest   At `Least` no point that meets the rows is worth more, over its whole, than the point read off.
use Rattle.std.proofs.Common.{◌≡◌, ℕ, ℤ, pos, negsuc, zero, suc, ◌<◌, ◌≤◌, arith, sym, ap, ◌∙◌, List, length, Option, Some, None, true, false}
use Rattle.std.specs.Prelude.{◌-ℤ◌, ◌*ℤ◌, ◌≤ℤ◌, ◌<ℤ◌, neg_ℤ}
use Rattle.std.proofs.lemmas.Int.{ints}
use Rattle.whole_numbers.specs.MultipleLaws.{times_times}
use Rattle.ipet_rows.specs.Programs.{Program, IsProgram}
use Rattle.ipet_rows.specs.Points.{MeetsAll, worth}
use Rattle.ipet_rows.specs.Firsts.{entry}
use Rattle.ipet_rows.specs.Duals.{dual_sum}
use Rattle.ipet_rows.specs.DualityLaws.{weak_duality, weak_parts, times_rising}
use Rattle.ipet_rows.specs.SumLaws.{times_difference, swap_first}
use Rattle.simplex_rules.specs.MixingLaws.{cancel_at_least}
use Rattle.simplex_rules.specs.Tableaus.{multipliers, Tableau, held_at, number_at, slacks_from, all_lines, width_of, first_tableau}
use Rattle.simplex_rules.specs.PivotRule.{leaving, entering, entering_wide, pivot_wide, pivoted, opened, RunEnd, Least, TooWide, Pivots, Ended, variables_of, after_place, after_row, at_limit, run}
use Rattle.simplex_rules.specs.Promise.{basic_point, point_whole, handed, Opens, Answers}
use Rattle.simplex_rules.specs.Choices.{EnteringIs, IsLeaving}
use Rattle.simplex_rules.specs.ChoiceLaws.{entering_is, leaving_is}
use Rattle.simplex_rules.specs.HandedOut.{IsRising}
use Rattle.simplex_rules.proofs.HandedOutLemmas.{handed_signs, handed_columns, handed_dual, handed_sum}
use Rattle.simplex_rules.specs.HandedOutLaws.{width_above}
use Rattle.simplex_rules.proofs.OpeningLemmas.{opening_right}
use Rattle.simplex_rules.proofs.BasicPointLaws.{point_above, point_meets, point_worth}
use Rattle.simplex_rules.specs.Runs.{IsRight}
use Rattle.simplex_rules.specs.RunLaws.{by_test, right_pivot}

-- at the end no right side is negative
abbrev pub EndsAs : Tableau → RunEnd → Type 0
EndsAs t Least = (k : ℕ) → k < length t.rows → pos 0 ≤ℤ number_at t k 0
EndsAs t (TooWide k) = Unit {0}
EndsAs t Pivots = Unit {0}

-- the last tableau is right, and at `Least` no right side is negative
pub record EndsRight (p : Program) (x : Ended) : Type 0 where
  pub right : IsRight p x.tableau
  pub end : EndsAs x.tableau x.end

limit_right : (p : Program) (t : Tableau) (o : Option ℕ) → IsRight p t → IsLeaving t (length t.rows) o
    → EndsRight p (at_limit t o)
limit_right p t None right is = record { right = right; end = is }
limit_right p t (Some r) right is = record { right = right; end = tt }

place_right : (p : Program) (made r : ℕ) (t : Tableau) (go_on : Tableau → Ended) (o : Option ℕ) → IsRight p t
    → r < length t.rows
    → EnteringIs (held_at t.rows r).line t.objective (variables_of p) o → ((t' : Tableau) → IsRight p t' → EndsRight p (go_on t')) → EndsRight p (after_place p made r t go_on o)
place_right p made r t go_on None right below is later = record { right = right; end = tt }
place_right p made r t go_on (Some e) right below is later = by_test (pivot_wide p r e t)
    (λ (yes_ : pivot_wide p r e t ≡ true). rw yes_ (let out : EndsRight p (record { tableau = t; end = TooWide (suc made) }) = record { right = right; end = tt } in out))
    (λ (no_ : pivot_wide p r e t ≡ false). rw no_ (later (pivoted (neg_ℤ (pos 1)) r e t) (right_pivot p t r e right below is)))

row_right : (p : Program) (made : ℕ) (t : Tableau) (go_on : Tableau → Ended) (o : Option ℕ) → IsRight p t
    → IsLeaving t (length t.rows) o
    → ((t' : Tableau) → IsRight p t' → EndsRight p (go_on t')) → EndsRight p (after_row p made t go_on o)
row_right p made t go_on None right is later = record { right = right; end = is }
row_right p made t go_on (Some r) right is later =
    let row = (held_at t.rows r).line in
    by_test (entering_wide row t.objective (variables_of p))
    (λ (yes_ : entering_wide row t.objective (variables_of p) ≡ true). rw yes_ (let out : EndsRight p (record { tableau = t; end = TooWide (suc made) }) = record { right = right; end = tt } in out))
    (λ (no_ : entering_wide row t.objective (variables_of p) ≡ false). rw no_
    (place_right p made r t go_on (entering row t.objective (variables_of p)) right is.0 (entering_is row t.objective (variables_of p)) later))

pub run_right : (p : Program) (n made : ℕ) (t : Tableau) → IsRight p t → EndsRight p (run p n made t)
run_right p zero made t right = limit_right p t (leaving t) right (leaving_is t)
run_right p (suc n) made t right = row_right p made t (run p n (suc made)) (leaving t) right (leaving_is t) (run_right p n (suc made))

ends_least : (t : Tableau) (e : RunEnd) → EndsAs t e → e ≡ Least → (k : ℕ) → k < length t.rows
    → pos 0 ≤ℤ number_at t k 0
ends_least t Least is same = is
ends_least t (TooWide k) is same = cc
ends_least t Pivots is same = cc

pub run_answers : (p : Program) (n : ℕ) (t : Tableau) → IsRight p t → Answers p (run p n 0 t)
run_answers p n t right =
    let x = run p n 0 t in
    let r = run_right p n 0 t right in
    let wide : 2 ≤ width_of p = omega (arith, width_above p.rows (slacks_from p)) in
    let sum : dual_sum p (handed p (run p n 0 t).tableau) ≡ entry (run p n 0 t).tableau.objective 0 = handed_sum p x.tableau.objective r.right.sound.spans_objective in
    record {
      dual = handed_dual p x.tableau.objective r.right.sound.spans_objective r.right.sound.scale r.right.rising;
      value = sum;
      above = point_above (all_lines p) (width_of p) x.tableau r.right.sound;
      meets = λ same. point_meets p x.tableau wide r.right.sound (ends_least x.tableau x.end r.end same);
      equal = point_worth p x.tableau wide r.right.sound ∙ ap (λ (z : ℤ). z *ℤ point_whole (run p n 0 t).tableau) (sym sum);
    }

-- The rule from a program and its openings, with any number of pivots.
pub rule_answers : (p : Program) (os : List (ℕ × ℕ)) (n : ℕ) → IsProgram p → Opens p os
    → Answers p (run p n 0 (opened os (length os) (first_tableau p)))
rule_answers p os n is o =
    let r = opening_right p os is o in
    run_answers p n (opened os (length os) (first_tableau p)) (record { sound = r.0; rising = r.1 })

-- At `Least` no point that meets the rows is worth more, over its whole, than the point read off.
pub least_greatest : (p : Program) (t : Tableau) (x : ℕ → ℤ) (w : ℤ) → IsProgram p → IsRight p t → pos 1 ≤ℤ w
    → MeetsAll p x w
    → (worth p x *ℤ point_whole t) ≤ℤ (worth p (basic_point t) *ℤ w)
least_greatest p t x w is right whole meets =
    let d = entry t.objective 1 in
    let v = entry t.objective 0 in
    let wide : 2 ≤ width_of p = omega (arith, width_above p.rows (slacks_from p)) in
    let above = point_above (all_lines p) (width_of p) t right.sound in
    let sum = handed_sum p t.objective right.sound.spans_objective in
    let weak : (d *ℤ worth p x) ≤ℤ (dual_sum p (handed p t) *ℤ w) = weak_duality p d (handed p t) x w is (handed_dual p t.objective right.sound.spans_objective right.sound.scale right.rising) meets in
    let weak2 : (d *ℤ worth p x) ≤ℤ (v *ℤ w) = rw (← sum) weak in
    let one : ((d *ℤ worth p x) *ℤ point_whole t) ≤ℤ ((v *ℤ w) *ℤ point_whole t) = times_rising (d *ℤ worth p x) (v *ℤ w) (point_whole t) weak2 (omega (arith, ints, above)) in
    let equal = point_worth p t wide right.sound in
    let two : (v *ℤ w) *ℤ point_whole t ≡ d *ℤ (worth p (basic_point t) *ℤ w) =
    times_times v w (point_whole t) ∙ swap_first v w (point_whole t) ∙ ap (λ (z : ℤ). w *ℤ z) (sym equal) ∙ swap_first w d (worth p (basic_point t))
    ∙ ap (λ (z : ℤ). d *ℤ z) (let z : w *ℤ worth p (basic_point t) ≡ worth p (basic_point t) *ℤ w = omega (arith, ints) in z) in
    let three = times_times d (worth p x) (point_whole t) in
    let four = times_difference d (worth p (basic_point t) *ℤ w) (worth p x *ℤ point_whole t) in
    let five : pos 0 ≤ℤ (d *ℤ ((worth p (basic_point t) *ℤ w) -ℤ (worth p x *ℤ point_whole t))) = omega (arith, ints, one, two, three, four) in
    let six = cancel_at_least d ((worth p (basic_point t) *ℤ w) -ℤ (worth p x *ℤ point_whole t)) right.sound.scale five in
    omega (arith, ints, six)

times_below : (v w : ℤ) → v <ℤ pos 0 → pos 1 ≤ℤ w → (v *ℤ w) <ℤ pos 0
times_below (pos v) w p q = absurd (omega (arith, ints))
times_below (negsuc v) (pos zero) p q = absurd (omega (arith, ints))
times_below (negsuc v) (pos (suc w)) p q = omega (arith, ints)
times_below (negsuc v) (negsuc w) p q = absurd (omega (arith, ints))

-- Where some point meets the rows, a row with a negative right side has a place that can enter: else its numbers at
-- the slacks would be multipliers without a cost and with a sum below 0.
pub some_enters : (p : Program) (t : Tableau) (r : ℕ) (x : ℕ → ℤ) (w : ℤ) → IsProgram p → IsRight p t
    → r < length t.rows → number_at t r 0 <ℤ pos 0
    → IsRising (width_of p) (held_at t.rows r).line → pos 1 ≤ℤ w → MeetsAll p x w → ⊥
some_enters p t r x w is right below negative rising whole meets =
    let d = (held_at t.rows r).line in
    let spans = right.sound.spans r below in
    let y = multipliers p.rows (slacks_from p) d in
    let sum : dual_sum p (multipliers p.rows (slacks_from p) (held_at t.rows r).line) ≡ number_at t r 0 = handed_sum p d spans in
    let weak : (number_at t r 1 *ℤ worth p x) ≤ℤ (dual_sum p (multipliers p.rows (slacks_from p) (held_at t.rows r).line) *ℤ w) =
    weak_parts p (number_at t r 1) y x w is (handed_signs p d rising) (handed_columns p d spans rising) meets in
    let weak2 : (number_at t r 1 *ℤ worth p x) ≤ℤ (number_at t r 0 *ℤ w) = rw (← sum) weak in
    let none : number_at t r 1 *ℤ worth p x ≡ pos 0 = rw (right.sound.flat r below) (omega (arith, ints)) in
    let low = times_below (number_at t r 0) w negative whole in
    absurd (omega (arith, ints, weak2, none, low))
