-- A line freed of a place: the terms that are made are those of the definition's line, and so is the test.
use Rattle.std.proofs.Common.{◌≡◌, ℕ, ℤ, pos, negsuc, suc, ◌<◌, ◌≤◌, arith, sym, ap, ◌∙◌, List, subst, true, false, Bool, ⊎_elim}
use Rattle.std.specs.Prelude.{◌*ℤ◌, ◌≤ℤ◌, ◌<ℤ◌, not, ◌&&◌}
use Rattle.std.specs.Int.{int_div_euclid, w128}
use Rattle.std.specs.Int.RustNames.{FitsSigned}
use Rattle.std.proofs.lemmas.Int.{ints}
use Rattle.std.proofs.lemmas.Bool.{and_right, cases_lt}
use Rattle.lists.specs.TestLaws.{by_test}
use Rattle.whole_numbers.specs.Numbers.{gcd}
use Rattle.whole_numbers.specs.GcdLaws.{gcd_first, gcd_fits_first}
use Rattle.ipet_rows.specs.Rows.{vanishes}
use Rattle.ipet_rows.specs.UseLaws.{vanish_is}
use Rattle.ipet_rows.specs.Sums.{coefficient, IsAscending}
use Rattle.ipet_rows.specs.Programs.{IsWithin}
use Rattle.simplex_rules.specs.Lines.{spread, mixed, line_gcd, divided, reduced}
use Rattle.simplex_rules.specs.PivotRule.{mixed_wide, cleared_wide}
use Rattle.simplex_rules.specs.MixingLaws.{cancel_above, product_above}
use Rattle.simplex_rules.specs.StepLaws.{exact, first_gcd_above}
use Rattle.simplex_rules.specs.FirstTableauLaws.{beyond, spread_is}
use Rattle.simplex_tableau.specs.Merging.{narrow, IsMixture, IsTooWide}
use Rattle.simplex_tableau.specs.Reducing.{gcd_from, divided_terms}
use Rattle.simplex_tableau.specs.Shown.{IsFreed, IsFreedWide}
use Rattle.simplex_tableau.proofs.TermLemmas.{divided_rises, divided_within}
use Rattle.simplex_tableau.proofs.DivisorLaws.{gcd_from_above, gcd_from_each, gcd_is_line, reduced_one}
use Rattle.simplex_tableau.proofs.StepLaws.{spread_divided, spread_mixed, mixed_narrow, mixed_wide_there, cleared_by, wide_by}
use Rattle.simplex_tableau.proofs.MergeLaws.{nothing_narrow}

-- ---- what the calls ask

-- a common divisor with a number above 0 fits
pub divisor_fits : (a b : ℤ) → pos 0 <ℤ a → FitsSigned w128 a → FitsSigned w128 (gcd a b)
divisor_fits (pos n) b above fits = gcd_fits_first (pos n) b (omega (arith, ints, above)) (omega (arith, ints, fits))
divisor_fits (negsuc n) b above fits = absurd (omega (arith, ints, above))

-- and is above 0
pub divisor_above_none : (a b : ℤ) → pos 0 <ℤ a → pos 0 <ℤ gcd a b
divisor_above_none a b above = let least = first_gcd_above a b (omega (arith, ints, above)) in omega (arith, ints, least)

-- ---- the mixture

factor_above : (p q : ℤ) → pos 1 ≤ℤ p → pos 1 ≤ℤ int_div_euclid p (gcd p q)
factor_above p q above =
    let g_above : pos 1 ≤ℤ gcd p q = first_gcd_above p q above in
    let a_is : gcd p q *ℤ int_div_euclid p (gcd p q) ≡ p = exact (gcd p q) p g_above (gcd_first p q) in
    cancel_above (gcd p q) (int_div_euclid p (gcd p q)) g_above (rw a_is above)

-- the mixture has a number above 0 where the line has one and the row none
pub mixture_above : (e own : ℕ) (a b : ℤ) (h f line : List (ℕ × ℤ))
    → a ≡ int_div_euclid (coefficient h e) (gcd (coefficient h e) (coefficient f e))
    → IsMixture a b f h line
    → pos 0 <ℤ coefficient h e → pos 0 <ℤ coefficient f own → coefficient h own ≡ pos 0 → pos 0 <ℤ coefficient line own
mixture_above e own a b h f line is m there here none =
    let above : pos 1 ≤ℤ a = rw is (factor_above (coefficient h e) (coefficient f e) (omega (arith, ints, there))) in
    let gone : b *ℤ coefficient h own ≡ pos 0 = rw none (omega (arith, ints)) in
    omega (arith, ints, m.value own, gone, product_above a (coefficient f own) above (omega (arith, ints, here)))

-- ---- the whole

some_stays : (z : ℤ) → (z ≡ pos 0 → ⊥) → vanishes z ≡ false
some_stays z some = by_test (vanishes z) (λ (v : vanishes z ≡ true). absurd (some (vanish_is z v))) (λ (v : vanishes z ≡ false). v)

module _ (e own : ℕ) (a b : ℤ) (h f : List (ℕ × ℤ))
    (a_is : a ≡ int_div_euclid (coefficient h e) (gcd (coefficient h e) (coefficient f e)))
    (b_is : b ≡ int_div_euclid (coefficient f e) (gcd (coefficient h e) (coefficient f e))) where
  test_is : (w : ℕ) → IsWithin w f → IsWithin w h
      → cleared_wide e (spread w 0 h) (spread w 0 f) ≡ (not (vanishes (coefficient f e)) && mixed_wide a b (spread w 0 f) (spread w 0 h))
  test_is w within other =
      wide_by e (spread w 0 h) (spread w 0 f) (coefficient h e) (coefficient f e) (spread_is w h e other) (spread_is w f e within)
      ∙ ap (λ (x : ℤ). not (vanishes (coefficient f e)) && mixed_wide x (int_div_euclid (coefficient f e) (gcd (coefficient h e) (coefficient f e))) (spread w 0 f)
      (spread w 0 h)) (sym a_is)
      ∙ ap (λ (x : ℤ). not (vanishes (coefficient f e)) && mixed_wide a x (spread w 0 f) (spread w 0 h)) (sym b_is)

  -- where the mixture is wide, so is the definition's step
  pub freed_wide : (coefficient f e ≡ pos 0 → ⊥) → IsTooWide a b f h → IsFreedWide e h f
  freed_wide some wide = record {
    wide = λ w within other. test_is w within other
        ∙ ap (λ (v : Bool). not v && mixed_wide a b (spread w 0 f) (spread w 0 h)) (some_stays (coefficient f e) some)
        ∙ mixed_wide_there w 0 wide.place a b f h (omega arith) (⊎_elim
        (λ (less : wide.place < w). omega (arith, less))
        (λ (past : w ≤ wide.place).
        let no_f : coefficient f wide.place ≡ pos 0 = beyond w f wide.place within past in
        let no_h : coefficient h wide.place ≡ pos 0 = beyond w h wide.place other past in
        let fit : narrow a b (coefficient f wide.place) (coefficient h wide.place) ≡ true = rw (no_f, no_h) (nothing_narrow a b) in absurd cc)
        (cases_lt wide.place w)) wide.wide;
  }

  -- the mixture, divided by its common divisor, is the definition's line
  pub freed_is : (first by : ℤ) (line out : List (ℕ × ℤ)) → IsMixture a b f h line → first ≡ coefficient line own
      → pos 0 <ℤ first → by ≡ gcd_from first line
      → out ≡ divided_terms by line → IsFreed e h f out
  freed_is first by line out m is above by_is made =
      let least : pos 1 ≤ℤ first = omega (arith, ints, above) in
      let d = gcd_from first line in
      let d_above : pos 1 ≤ℤ gcd_from first line = gcd_from_above first line least in
      let out_is : out ≡ divided_terms (gcd_from first line) line = made ∙ ap (λ (x : ℤ). divided_terms x line) by_is in
      let d_is : (w : ℕ) → IsWithin w f → IsWithin w h → gcd_from first line ≡ line_gcd (spread w 0 line) =
      λ w within other. gcd_is_line w first own line (m.within w within other) m.rises is least in
      let out_line : (w : ℕ) → IsWithin w f → IsWithin w h → spread w 0 out ≡ reduced (spread w 0 line) = λ w within other.
      ap (λ (ts : List (ℕ × ℤ)). spread w 0 ts) out_is
      ∙ spread_divided w 0 d line d_above (gcd_from_each first line)
      ∙ ap (λ (x : ℤ). divided x (spread w 0 line)) (d_is w within other) in
      record {
        line = λ w within other.
            out_line w within other
            ∙ ap (λ (l : List ℤ). reduced l) (spread_mixed w 0 a b f h line m.value)
            ∙ ap (λ (x : ℤ). reduced (mixed x b (spread w 0 f) (spread w 0 h))) a_is
            ∙ ap (λ (x : ℤ). reduced (mixed (int_div_euclid (coefficient h e) (gcd (coefficient h e) (coefficient f e))) x (spread w 0 f) (spread w 0 h))) b_is
            ∙ sym (cleared_by e (spread w 0 h) (spread w 0 f) (coefficient h e) (coefficient f e) (spread_is w h e other) (spread_is w f e within));
        narrow = λ w within other. test_is w within other
            ∙ and_right (not (vanishes (coefficient f e))) (mixed_wide a b (spread w 0 f) (spread w 0 h)) (mixed_narrow w 0 a b f h m.fit);
        one = λ w within other. ap line_gcd (out_line w within other) ∙ reduced_one (spread w 0 line) (subst (λ (x : ℤ). pos 1 ≤ℤ x) (d_is w within other) d_above);
        within = λ w within other. subst (λ (ts : List (ℕ × ℤ)). IsWithin w ts) (sym out_is) (divided_within w d line (m.within w within other));
        rises = subst (λ (ts : List (ℕ × ℤ)). IsAscending ts) (sym out_is) (divided_rises d line m.rises);
      }
