-- Laws of terms from.
--   dropped_rises, dropped_from   they ascend, begin there, and keep the width
--   dropped_same   from the place on their numbers are those of all terms
--   first_is, cost_is   the number of their first term, if it is at the place, is that of all terms there
use Rattle.std.proofs.Common.{◌≡◌, ℕ, ℤ, pos, ◌≤◌, arith, refl, ◌∙◌, List, [], ◌∷◌, ⊎_elim}
use Rattle.std.specs.Prelude.{nat_lt}
use Rattle.std.proofs.lemmas.Bool.{cases_eq, eq-eqb, ne_eqb, ltb-true, ltb-false}
use Rattle.lists.specs.TestLaws.{by_test}
use Rattle.ipet_rows.specs.Sums.{coefficient, IsAscending}
use Rattle.ipet_rows.specs.DualRowLaws.{found_here, found_later}
use Rattle.simplex_tableau.specs.Merging.{IsFrom}
use Rattle.simplex_tableau.specs.TermLaws.{nothing_before}
use Rattle.simplex_tableau.specs.Choosing.{dropped, number_first}

pub dropped_rises : (p : ℕ) (ts : List (ℕ × ℤ)) → IsAscending ts → IsAscending (dropped p ts)
dropped_rises p [] rises = tt
dropped_rises p (t ∷ ts) rises = by_test (nat_lt t.0 p) (λ e. rw e (dropped_rises p ts rises.1)) (λ e. rw e rises)

pub dropped_from : (p : ℕ) (ts : List (ℕ × ℤ)) → IsFrom p (dropped p ts)
dropped_from p [] = tt
dropped_from p (t ∷ ts) = by_test (nat_lt t.0 p) (λ e. rw e (dropped_from p ts)) (λ e. rw e (omega (arith, ltb-false t.0 p e)))

pub dropped_same : (p : ℕ) (ts : List (ℕ × ℤ)) (j : ℕ) → p ≤ j → coefficient (dropped p ts) j ≡ coefficient ts j
dropped_same p [] j past = refl
dropped_same p (t ∷ ts) j past = by_test (nat_lt t.0 p)
    (λ e. rw e (dropped_same p ts j past ∙ found_later t ts j (λ (q : t.0 ≡ j). absurd (omega (arith, ltb-true t.0 p e)))))
    (λ e. rw e refl)

pub first_is : (p : ℕ) (ts : List (ℕ × ℤ)) → IsFrom p ts → IsAscending ts → number_first ts p ≡ coefficient ts p
first_is p [] from rises = refl
first_is p (t ∷ ts) from rises = ⊎_elim
    (λ (q : t.0 ≡ p). let e : number_first (t ∷ ts) p ≡ t.1 = rw (eq-eqb t.0 p q) refl in e ∙ found_here t ts p rises q)
    (λ (d : t.0 ≡ p → ⊥). let e : number_first (t ∷ ts) p ≡ pos 0 = rw (ne_eqb t.0 p d) refl in e ∙ nothing_before t ts p rises (omega (arith, from)))
    (cases_eq t.0 p)

-- the number at the place
pub cost_is : (p : ℕ) (ds : List (ℕ × ℤ)) → IsAscending ds → number_first (dropped p ds) p ≡ coefficient ds p
cost_is p ds rises = first_is p (dropped p ds) (dropped_from p ds) (dropped_rises p ds rises) ∙ dropped_same p ds p (omega arith)
