-- Laws of runs.
--   right_pivot   a pivot of the rule keeps the tableau right
use Rattle.std.proofs.Common.{◌≡◌, ℕ, ℤ, pos, negsuc, zero, suc, ◌<◌, ◌≤◌, arith, refl, ◌∙◌, List, length, ⊎_elim, Bool, true, false}
use Rattle.std.specs.Prelude.{◌*ℤ◌, ◌≤ℤ◌, neg_ℤ, int_lt}
use Rattle.std.proofs.lemmas.Int.{ints}
use Rattle.std.proofs.lemmas.Bool.{cases_Bool}
use Rattle.ipet_rows.specs.Programs.{Program}
use Rattle.ipet_rows.specs.Firsts.{entry}
use Rattle.simplex_rules.specs.Tableaus.{Tableau, held_at, number_at, slacks_from, all_lines, width_of}
use Rattle.simplex_rules.specs.PivotRule.{pivoted, variables_of}
use Rattle.simplex_rules.specs.PivotingLaws.{sound_pivot, rising_pivot}
use Rattle.simplex_rules.specs.StepLaws.{pivoted_is}
use Rattle.simplex_rules.specs.Choices.{IsEntering}
use Rattle.simplex_rules.specs.HandedOutLaws.{width_above}
use Rattle.simplex_rules.specs.Runs.{IsRight}

pub by_test : {A : Type 0} (v : Bool) → (v ≡ true → A) → (v ≡ false → A) → A
by_test v one other = ⊎_elim one other (cases_Bool v)

not_above : (a b : ℤ) → pos 0 ≤ℤ a → b ≤ℤ pos 0 → (a *ℤ b) ≤ℤ pos 0
not_above (pos a) (pos zero) p q = omega (arith, ints)
not_above (pos a) (pos (suc b)) p q = absurd (omega (arith, ints))
not_above (pos a) (negsuc b) p q = omega (arith, ints)
not_above (negsuc a) b p q = absurd (omega (arith, ints))

not_below : (a b : ℤ) → pos 0 ≤ℤ a → pos 0 ≤ℤ b → pos 0 ≤ℤ (a *ℤ b)
not_below (pos d) (pos m) p q = omega (arith, ints)
not_below (negsuc d) m p q = absurd (omega (arith, ints))
not_below (pos d) (negsuc m) p q = absurd (omega (arith, ints))

-- the numbers of the row that is pivoted are those of the old one, turned
minus_one : (z : ℤ) → neg_ℤ (pos 1) *ℤ z ≡ neg_ℤ z
minus_one z = omega (arith, ints)

-- the ratio of the place that enters bounds every other, also where the row's number is not below 0
ratio_all : (row d : List ℤ) (n e j : ℕ) (hj he : ℤ) → IsEntering row d n e → hj ≡ neg_ℤ (entry row j)
    → he ≡ neg_ℤ (entry row e)
    → pos 0 ≤ℤ entry d e → pos 0 ≤ℤ entry d j → 2 ≤ j → j < suc (suc n) → (entry d e *ℤ hj) ≤ℤ (entry d j *ℤ he)
ratio_all row d n e j hj he is q r pe pj two less =
    rw (q, r)
    (by_test (int_lt (entry row j) (pos 0))
    (λ (yes_ : int_lt (entry row j) (pos 0) ≡ true). is.ratio j two less (omega (arith, ints, yes_)))
    (λ (no_ : int_lt (entry row j) (pos 0) ≡ false).
    let low = is.below in
    let a = not_above (entry d e) (neg_ℤ (entry row j)) pe (omega (arith, ints, no_)) in
    let b = not_below (entry d j) (neg_ℤ (entry row e)) pj (omega (arith, ints, low)) in
    omega (arith, ints, a, b)))

-- a pivot of the rule keeps the tableau right
pub right_pivot : (p : Program) (t : Tableau) (r e : ℕ) → IsRight p t → r < length t.rows
    → IsEntering (held_at t.rows r).line t.objective (variables_of p) e
    → IsRight p (pivoted (neg_ℤ (pos 1)) r e t)
right_pivot p t r e right below is =
    let u : ℤ = neg_ℤ (pos 1) in
    let w = width_of p in
    let wide : 2 ≤ width_of p = omega (arith, width_above p.rows (slacks_from p)) in
    let bound : suc (suc (variables_of p)) ≡ width_of p = omega arith in
    let low = is.below in
    let most : e < width_of p = omega (arith, is.most) in
    let above : pos 1 ≤ℤ (neg_ℤ (pos 1) *ℤ number_at t r e) = omega (arith, ints, minus_one (number_at t r e), low) in
    let v = pivoted_is (all_lines p) w t r e u right.sound below refl above in
    record {
      sound = sound_pivot (all_lines p) w t (pivoted (neg_ℤ (pos 1)) r e t) r e u right.sound v is.least most;
      rising = record {
        is = λ j two less.
            rising_pivot e (entry t.objective) (number_at (pivoted (neg_ℤ (pos 1)) r e t) r) (entry (pivoted (neg_ℤ (pos 1)) r e t).objective) j v.objective v.above
            (ratio_all (held_at t.rows r).line t.objective (variables_of p) e j (number_at (pivoted (neg_ℤ (pos 1)) r e t) r j) (number_at (pivoted (neg_ℤ (pos 1)) r e t) r e) is
            (v.row j ∙ minus_one (number_at t r j)) (v.row e ∙ minus_one (number_at t r e))
            (right.rising.is e is.least most) (right.rising.is j two less) two (omega arith));
      };
    }
