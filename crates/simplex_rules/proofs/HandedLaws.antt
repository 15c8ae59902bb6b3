-- What a run hands out, for the test of multipliers.
--   ended_narrow    it is not wide for the test, where what the opening hands out is not
--   dual_holds      a dual point that is not wide holds for each bound that its value does not pass
use Rattle.std.proofs.Common.{◌≡◌, ◌<◌, ◌≤◌, ℕ, zero, suc, ℤ, pos, Bool, true, false, List, length, Option, None, Some, refl, ap, sym, ◌∙◌, subst, arith}
use Rattle.std.specs.Prelude.{neg_ℤ, ◌||◌, ◌*ℤ◌, ◌≤ℤ◌, int_le}
use Rattle.std.proofs.lemmas.Int.{ints}
use Rattle.std.proofs.lemmas.Bool.{both_ways, le-leb}
use Rattle.lists.specs.TestLaws.{by_test}
use Rattle.ipet_rows.specs.Programs.{Program, row_at, cost_at}
use Rattle.ipet_rows.specs.Firsts.{entry, fits, or_else, first}
use Rattle.ipet_rows.specs.Duals.{IsDual, column_part, column_sum, right_part, dual_sum}
use Rattle.ipet_rows.specs.Verdicts.{first_wide, sign_test, sign_at, unless_wide, column_test, column_at, floor_of, bound_test, right_verdict, verdict_or, verdict}
use Rattle.ipet_rows.specs.declared.verdict.Verdict.{Verdict}
use Rattle.ipet_rows.specs.declared.verdict.Verdict.TheVariants.{Holds, Wide}
use Rattle.simplex_rules.specs.Tableaus.{Tableau, held_at}
use Rattle.simplex_rules.specs.PivotRule.{leaving, entering, entering_wide, is_wide, handed_wide, pivot_wide, pivoted, TooWide, Ended, variables_of, after_place, after_row, at_limit, run}

-- ---- runs

last_false : (a b : Bool) → (a || b) ≡ false → b ≡ false
last_false false b e = e
last_false true b e = absurd cc

module _ (p : Program) where
  -- what the last tableau hands out is not wide
  abbrev IsNarrow : Ended → Type 0
  IsNarrow x = handed_wide p x.tableau ≡ false

  place_narrow : (made r : ℕ) (t : Tableau) (go_on : Tableau → Ended) (o : Option ℕ) → handed_wide p t ≡ false
      → ((u : Tableau) → handed_wide p u ≡ false → IsNarrow (go_on u)) → IsNarrow (after_place p made r t go_on o)
  place_narrow made r t go_on None narrow later = narrow
  place_narrow made r t go_on (Some e) narrow later = by_test (pivot_wide p r e t)
      (λ is. let ends : after_place p made r t go_on (Some e) ≡ (let x : Ended = record { tableau = t; end = TooWide (suc made) } in x) = rw is refl in subst IsNarrow (sym ends) narrow)
      (λ clear. let goes : after_place p made r t go_on (Some e) ≡ go_on (pivoted (neg_ℤ (pos 1)) r e t) = rw clear refl in
      subst IsNarrow (sym goes) (later (pivoted (neg_ℤ (pos 1)) r e t) (last_false _ (handed_wide p (pivoted (neg_ℤ (pos 1)) r e t)) clear)))

  row_narrow : (made : ℕ) (t : Tableau) (go_on : Tableau → Ended) (o : Option ℕ) → handed_wide p t ≡ false
      → ((u : Tableau) → handed_wide p u ≡ false → IsNarrow (go_on u)) → IsNarrow (after_row p made t go_on o)
  row_narrow made t go_on None narrow later = narrow
  row_narrow made t go_on (Some r) narrow later =
      let row = (held_at t.rows r).line in
      by_test (entering_wide row t.objective (variables_of p))
      (λ is. let ends : after_row p made t go_on (Some r) ≡ (let x : Ended = record { tableau = t; end = TooWide (suc made) } in x) = rw is refl in subst IsNarrow (sym ends) narrow)
      (λ clear. let goes : after_row p made t go_on (Some r) ≡ after_place p made r t go_on (entering row t.objective (variables_of p)) = rw clear refl in
      subst IsNarrow (sym goes) (place_narrow made r t go_on (entering row t.objective (variables_of p)) narrow later))

  limit_narrow : (t : Tableau) (o : Option ℕ) → handed_wide p t ≡ false → IsNarrow (at_limit t o)
  limit_narrow t None narrow = narrow
  limit_narrow t (Some r) narrow = narrow

  -- what a run hands out is not wide, where what it begins with is not
  pub run_narrow : (n made : ℕ) (t : Tableau) → handed_wide p t ≡ false → handed_wide p (run p n made t).tableau ≡ false
  run_narrow zero made t narrow = limit_narrow t (leaving t) narrow
  run_narrow (suc n) made t narrow = row_narrow made t (run p n (suc made)) (leaving t) narrow (run_narrow n (suc made))

-- ---- verdicts

pub all_none : {A : Type 0} (n : ℕ) (f : ℕ → Option A) → ((k : ℕ) → k < n → f k ≡ None) → first n f ≡ None
all_none zero f none = refl
all_none (suc n) f none = rw (all_none n f (λ k below. none k (omega arith)), none n (omega arith)) refl

first_found : {A : Type 0} (n : ℕ) (f : ℕ → Option A) (w : A) → first n f ≡ Some w → (k : ℕ) × (k < n) × (f k ≡ Some w)
first_found {A = A} zero f w e = absurd cc
first_found {A = A} (suc n) f w e = by_first (first_found n f) (first n f) refl e
  where
    by_first : ((v : A) → first n f ≡ Some v → (k : ℕ) × (k < n) × (f k ≡ Some v)) → (o : Option A) → first n f ≡ o
        → or_else o (f n) ≡ Some w → (k : ℕ) × (k < suc n) × (f k ≡ Some w)
    by_first before None none later = (n, omega arith, later)
    by_first before (Some v) found same =
        let v_is : v ≡ w = cc in
        let rest = before w (found ∙ ap Some v_is) in
        let low = rest.1 in
        (rest.0, omega (arith, low), rest.2)

pub sign_none : (k : ℕ) (equation : Bool) (y : ℤ) → (equation ≡ false → pos 0 ≤ℤ y) → sign_test k equation y ≡ None
sign_none k true y sign = refl
sign_none k false y sign = let above : int_le (pos 0) y ≡ true = (let s = sign refl in at_least y s) in rw above refl
  where
    at_least : (z : ℤ) → pos 0 ≤ℤ z → int_le (pos 0) z ≡ true
    at_least z above = by_test (int_le (pos 0) z) (λ is. is) (λ clear. absurd (omega (arith, ints, clear, above)))

-- an answer at a column whose cost is bounded is that a number is wide
column_wide : (rows e : ℕ) (o : Option ℕ) (need sum : ℤ) (w : Verdict) → need ≤ℤ sum
    → unless_wide o (λ k. Some (Wide k)) (column_test rows e need sum) ≡ Some w → is_wide w ≡ true
column_wide rows e (Some k) need sum w bounded found = let same : Wide k ≡ w = cc in ap is_wide (sym same)
column_wide rows e None need sum w bounded found = by_test (fits need)
    (λ fit. by_test (int_le need sum)
    (λ is. absurd (let none : column_test rows e need sum ≡ None = rw (fit, is) refl in cc))
    (λ clear. absurd (omega (arith, ints, clear, bounded))))
    (λ clear. let wide : column_test rows e need sum ≡ Some (Wide rows) = rw clear refl in let same : Wide rows ≡ w = cc in ap is_wide (sym same))

right_holds : (o : Option ℕ) (bound value : ℕ) → is_wide (unless_wide o Wide (bound_test 0 value)) ≡ false
    → value ≤ bound → unless_wide o Wide (bound_test bound value) ≡ Holds value
right_holds (Some k) bound value narrow low = absurd cc
right_holds None bound value narrow low = rw (le-leb value bound low) refl

-- a dual point that is not wide holds for each bound that its value does not pass
pub dual_holds : (p : Program) (scale : ℤ) (y : List ℤ) (bound : ℕ) → IsDual p scale y
    → is_wide (verdict p scale y 0) ≡ false → floor_of (dual_sum p y) scale ≤ bound
    → verdict p scale y bound ≡ Holds (floor_of (dual_sum p y) scale)
unfolding verdict
dual_holds p scale y bound dual narrow low =
    let signs : first (length p.rows) (sign_at p y) ≡ None = all_none (length p.rows) (sign_at p y) (λ k below. sign_none k (row_at p.rows k).equation (entry y k) (dual.signs k below)) in
    let starts : (b : ℕ) → verdict p scale y b ≡ verdict_or (first (length p.costs) (column_at p scale y)) (right_verdict p scale y b) = λ b. rw signs refl in
    by_columns (first (length p.costs) (column_at p scale y)) refl starts
  where
    by_columns : (o : Option Verdict) → first (length p.costs) (column_at p scale y) ≡ o → ((b : ℕ) → verdict p scale y b ≡ verdict_or (first (length p.costs) (column_at p scale y)) (right_verdict p scale y b))
        → verdict p scale y bound ≡ Holds (floor_of (dual_sum p y) scale)
    by_columns None none starts =
        let goes : (b : ℕ) → verdict p scale y b ≡ right_verdict p scale y b = λ b. starts b ∙ ap (λ (o : Option Verdict). verdict_or o (right_verdict p scale y b)) none in
        goes bound ∙ right_holds (first_wide (length p.rows) (right_part p y)) bound (floor_of (dual_sum p y) scale) (ap is_wide (sym (goes 0)) ∙ narrow) low
    by_columns (Some w) found starts =
        let told : verdict p scale y 0 ≡ w = starts 0 ∙ ap (λ (o : Option Verdict). verdict_or o (right_verdict p scale y 0)) found in
        let there = first_found (length p.costs) (column_at p scale y) w found in
        let e = there.0 in
        let wide = column_wide (length p.rows) e (first_wide (length p.rows) (column_part p y e)) (scale *ℤ pos (cost_at p.costs e)) (column_sum p y e) w (dual.columns e there.1) there.2 in
        absurd (both_ways (is_wide w) (ap is_wide (sym told) ∙ narrow) wide)
