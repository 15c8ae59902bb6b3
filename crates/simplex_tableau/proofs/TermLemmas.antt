-- On the way to the laws of term.
--   each_of, each_at   a number divides each term's number where it divides each place's, and the other way
--   divided_is         the divided line, times the divisor, is the line
use Rattle.std.proofs.Common.{◌≡◌, ℕ, ℤ, pos, arith, refl, sym, List, [], ◌∷◌, subst, ⊎_elim}
use Rattle.std.specs.Prelude.{◌*ℤ◌, ◌≤ℤ◌}
use Rattle.std.specs.Int.{int_div_euclid}
use Rattle.std.proofs.lemmas.Int.{ints}
use Rattle.std.proofs.lemmas.Bool.{cases_eq}
use Rattle.whole_numbers.specs.Numbers.{Divides}
use Rattle.whole_numbers.specs.MultipleLaws.{divides_zero, divides_sum}
use Rattle.ipet_rows.specs.Sums.{coefficient, coefficient_of, StartsAbove, IsAscending}
use Rattle.ipet_rows.specs.Programs.{IsWithin}
use Rattle.ipet_rows.specs.SumLaws.{times_sum, term_here, term_elsewhere}
use Rattle.ipet_rows.specs.DualRowLaws.{found_here, found_later}
use Rattle.simplex_rules.specs.Tableaus.{turned}
use Rattle.simplex_rules.specs.StepLaws.{exact}
use Rattle.simplex_tableau.specs.Reducing.{divided_terms}
use Rattle.simplex_tableau.proofs.ReducingLaws.{DividesEach}
use Rattle.simplex_tableau.specs.TermLaws.{nothing_up_to}

-- ---- divisors

-- a number that divides each place's number divides each term's
pub each_of : (d : ℤ) (ts : List (ℕ × ℤ)) → IsAscending ts → ((j : ℕ) → Divides d (coefficient ts j)) → DividesEach d ts
each_of d [] rises each_one = tt
each_of d (t ∷ ts) rises each_one = (
  subst (λ (z : ℤ). Divides d z) (sym (found_here t ts t.0 rises refl)) (each_one t.0),
  each_of d ts rises.1 (λ j. ⊎_elim
      (λ (q : t.0 ≡ j). subst (λ (z : ℤ). Divides d z) (sym (nothing_up_to t.0 ts j rises.0 rises.1 (omega arith))) (divides_zero d))
      (λ (n : t.0 ≡ j → ⊥). subst (λ (z : ℤ). Divides d z) (sym (found_later t ts j n)) (each_one j))
      (cases_eq t.0 j)),
)

divides_term : (d : ℤ) (t : ℕ × ℤ) (j : ℕ) → Divides d t.1 → Divides d (coefficient_of t j)
divides_term d t j m = ⊎_elim
    (λ (q : t.0 ≡ j). subst (λ (z : ℤ). Divides d z) (sym (term_here t.0 j t.1 q)) m)
    (λ (n : t.0 ≡ j → ⊥). subst (λ (z : ℤ). Divides d z) (sym (term_elsewhere t.0 j t.1 n)) (divides_zero d))
    (cases_eq t.0 j)

-- and the other way
pub each_at : (d : ℤ) (ts : List (ℕ × ℤ)) (j : ℕ) → DividesEach d ts → Divides d (coefficient ts j)
each_at d [] j each_one = divides_zero d
each_at d (t ∷ ts) j each_one = divides_sum d (coefficient_of t j) (coefficient ts j) (divides_term d t j each_one.0) (each_at d ts j each_one.1)

-- ---- divided lines

term_divided : (d : ℤ) (c j : ℕ) (x : ℤ) → pos 1 ≤ℤ d → Divides d x
    → d *ℤ coefficient_of (c, int_div_euclid x d) j ≡ coefficient_of (c, x) j
term_divided d c j x above m = ⊎_elim
    (λ (q : c ≡ j). rw (term_here c j (int_div_euclid x d) q, term_here c j x q) (exact d x above m))
    (λ (n : c ≡ j → ⊥). rw (term_elsewhere c j (int_div_euclid x d) n, term_elsewhere c j x n) (omega (arith, ints)))
    (cases_eq c j)

-- the divided line, times the divisor, is the line
pub divided_is : (d : ℤ) (ts : List (ℕ × ℤ)) (j : ℕ) → pos 1 ≤ℤ d → DividesEach d ts
    → d *ℤ coefficient (divided_terms d ts) j ≡ coefficient ts j
divided_is d [] j above each_one = omega (arith, ints)
divided_is d (t ∷ ts) j above each_one =
    omega (
      arith,
      ints,
      times_sum d (coefficient_of (t.0, int_div_euclid t.1 d) j)
          (coefficient (divided_terms d ts) j),
      term_divided d t.0 j t.1 above each_one.0,
      divided_is d ts j above each_one.1,
    )

divided_starts : (c : ℕ) (d : ℤ) (ts : List (ℕ × ℤ)) → StartsAbove c ts → StartsAbove c (divided_terms d ts)
divided_starts c d [] above = tt
divided_starts c d (t ∷ ts) above = above

pub divided_rises : (d : ℤ) (ts : List (ℕ × ℤ)) → IsAscending ts → IsAscending (divided_terms d ts)
divided_rises d [] rises = tt
divided_rises d (t ∷ ts) rises = (divided_starts t.0 d ts rises.0, divided_rises d ts rises.1)

pub divided_within : (w : ℕ) (d : ℤ) (ts : List (ℕ × ℤ)) → IsWithin w ts → IsWithin w (divided_terms d ts)
divided_within w d [] within = tt
divided_within w d (t ∷ ts) within = (within.0, divided_within w d ts within.1)

-- ---- turned lines

turned_starts : (c : ℕ) (ts : List (ℕ × ℤ)) → StartsAbove c ts → StartsAbove c (turned ts)
turned_starts c [] above = tt
turned_starts c (t ∷ ts) above = above

pub turned_rises : (ts : List (ℕ × ℤ)) → IsAscending ts → IsAscending (turned ts)
turned_rises [] rises = tt
turned_rises (t ∷ ts) rises = (turned_starts t.0 ts rises.0, turned_rises ts rises.1)

pub turned_within : (w : ℕ) (ts : List (ℕ × ℤ)) → IsWithin w ts → IsWithin w (turned ts)
turned_within w [] within = tt
turned_within w (t ∷ ts) within = (within.0, turned_within w ts within.1)
