-- A line turned: the terms that are made are those of the definition's line, and so is the test.
use Rattle.std.proofs.Common.{◌≡◌, ℕ, ℤ, pos, neg_ℤ, suc, ◌<◌, ◌≤◌, arith, refl, sym, ap, ◌∙◌, List, [], ◌∷◌, Some, None, subst, true, false, Bool, ⊎_elim}
use Rattle.std.proofs.lemmas.Bool.{and_parts, cases_eq, cases_lt}
use Rattle.lists.specs.TestLaws.{by_test}
use Rattle.ipet_rows.specs.Sums.{coefficient, IsAscending}
use Rattle.ipet_rows.specs.Programs.{IsWithin}
use Rattle.ipet_rows.specs.Firsts.{fits}
use Rattle.ipet_rows.specs.DualRowLaws.{found_here, found_later}
use Rattle.dual_check.specs.Fitting.{fitting}
use Rattle.simplex_rules.specs.Lines.{spread}
use Rattle.simplex_rules.specs.Tableaus.{turned}
use Rattle.simplex_rules.specs.PivotRule.{line_wide}
use Rattle.simplex_rules.specs.FirstLineLaws.{coefficient_turned}
use Rattle.simplex_rules.specs.FirstTableauLaws.{beyond}
use Rattle.simplex_tableau.specs.Turning.{turned_fits}
use Rattle.simplex_tableau.specs.Shown.{IsTurned, IsTurnedWide}
use Rattle.simplex_tableau.specs.TermLaws.{nothing_up_to}
use Rattle.simplex_tableau.proofs.TermLemmas.{turned_rises, turned_within}
use Rattle.simplex_tableau.proofs.StepLaws.{spread_turned, line_narrow, line_wide_there}

-- ---- one term

pub number_turned : (t : ℕ × ℤ) (ts : List (ℕ × ℤ)) (z : ℤ) → Some z ≡ fitting (neg_ℤ t.1)
    → (z ≡ neg_ℤ t.1) × (turned_fits (t ∷ ts) ≡ turned_fits ts)
number_turned t ts z e = by_test (fits (neg_ℤ t.1))
    (λ (v : fits (neg_ℤ t.1) ≡ true). let s : fitting (neg_ℤ t.1) ≡ Some (neg_ℤ t.1) = rw v refl in (cc, rw v refl))
    (λ (v : fits (neg_ℤ t.1) ≡ false). let s : fitting (neg_ℤ t.1) ≡ None = rw v refl in absurd cc)

pub number_not_turned : (t : ℕ × ℤ) (ts : List (ℕ × ℤ)) → None ≡ fitting (neg_ℤ t.1) → turned_fits (t ∷ ts) ≡ false
number_not_turned t ts e = by_test (fits (neg_ℤ t.1))
    (λ (v : fits (neg_ℤ t.1) ≡ true). let s : fitting (neg_ℤ t.1) ≡ Some (neg_ℤ t.1) = rw v refl in absurd cc)
    (λ (v : fits (neg_ℤ t.1) ≡ false). rw v refl)

-- ---- all terms

-- where each term's number fits turned, so does each place's
each_fits : (ts : List (ℕ × ℤ)) (i : ℕ) → IsAscending ts → turned_fits ts ≡ true
    → fits (neg_ℤ (coefficient ts i)) ≡ true
each_fits [] i rises all = refl
each_fits (t ∷ ts) i rises all =
    let parts = and_parts (fits (neg_ℤ t.1)) (turned_fits ts) all in
    ⊎_elim
    (λ (q : t.0 ≡ i). subst (λ (z : ℤ). fits (neg_ℤ z) ≡ true) (found_here t ts i rises q) parts.0)
    (λ (n : t.0 ≡ i → ⊥). subst (λ (z : ℤ). fits (neg_ℤ z) ≡ true) (found_later t ts i n) (each_fits ts i rises.1 parts.1))
    (cases_eq t.0 i)

-- a place whose number does not fit turned
record IsWideAt (ts : List (ℕ × ℤ)) : Type 0 where
  place : ℕ
  wide : fits (neg_ℤ (coefficient ts place)) ≡ false

wide_at : (ts : List (ℕ × ℤ)) → IsAscending ts → turned_fits ts ≡ false → IsWideAt ts
wide_at [] rises none = absurd cc
wide_at (t ∷ ts) rises none = by_test (fits (neg_ℤ t.1))
    (λ (v : fits (neg_ℤ t.1) ≡ true).
    let later : turned_fits ts ≡ false = rw v at none in
    let rest = wide_at ts rises.1 later in
    record {
      place = rest.place;
      wide = ⊎_elim
          (λ (q : t.0 ≡ rest.place).
          let nothing : coefficient ts rest.place ≡ pos 0 = nothing_up_to t.0 ts rest.place rises.0 rises.1 (omega arith) in
          let fit : fits (neg_ℤ (coefficient ts rest.place)) ≡ true = rw nothing refl in
          absurd (let wide_ = rest.wide in cc))
          (λ (n : t.0 ≡ rest.place → ⊥). subst (λ (z : ℤ). fits (neg_ℤ z) ≡ false) (found_later t ts rest.place n) rest.wide)
          (cases_eq t.0 rest.place);
    })
    (λ (v : fits (neg_ℤ t.1) ≡ false). record {
      place = t.0;
      wide = subst (λ (z : ℤ). fits (neg_ℤ z) ≡ false) (found_here t ts t.0 rises refl) v;
    })

turned_place : (ts : List (ℕ × ℤ)) (i : ℕ) (v : Bool) → fits (neg_ℤ (coefficient ts i)) ≡ v
    → fits (coefficient (turned ts) i) ≡ v
turned_place ts i v e = ap fits (coefficient_turned ts i) ∙ e

pub turned_is : (f out : List (ℕ × ℤ)) → IsAscending f → out ≡ turned f → turned_fits f ≡ true → IsTurned f out
turned_is f out rises made fit = record {
  line = λ w. ap (λ (ts : List (ℕ × ℤ)). spread w 0 ts) made ∙ spread_turned w 0 f;
  narrow = λ w. ap line_wide (sym (spread_turned w 0 f)) ∙ line_narrow w 0 (turned f) (λ i. turned_place f i true (each_fits f i rises fit));
  within = λ w within. subst (λ (ts : List (ℕ × ℤ)). IsWithin w ts) (sym made) (turned_within w f within);
  rises = subst (λ (ts : List (ℕ × ℤ)). IsAscending ts) (sym made) (turned_rises f rises);
}

pub turned_wide : (f : List (ℕ × ℤ)) → IsAscending f → turned_fits f ≡ false → IsTurnedWide f
turned_wide f rises none =
    let there = wide_at f rises none in
    record {
      wide = λ w within. ap line_wide (sym (spread_turned w 0 f))
          ∙ line_wide_there w 0 there.place (turned f) (omega arith) (⊎_elim
          (λ (less : there.place < w). omega (arith, less))
          (λ (past : w ≤ there.place).
          let nothing : coefficient f there.place ≡ pos 0 = beyond w f there.place within past in
          let fit : fits (neg_ℤ (coefficient f there.place)) ≡ true = rw nothing refl in
          absurd (let wide_ = there.wide in cc))
          (cases_lt there.place w)) (turned_place f there.place false there.wide);
    }
