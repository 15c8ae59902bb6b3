-- Laws of first lines.
--   slack_line_column   a row's line at the place of a column, and at the right side
--   cost_terms_low      no cost below the first place
--   cost_terms_here     the cost at the place of a column
use Rattle.std.proofs.Common.{◌≡◌, ℕ, ℤ, pos, zero, suc, ◌+◌, ◌<◌, arith, refl, sym, ap, ◌∙◌, List, [], ◌∷◌, ⊎_elim}
use Rattle.std.specs.Prelude.{neg_ℤ}
use Rattle.std.proofs.lemmas.Int.{ints}
use Rattle.std.proofs.lemmas.Bool.{cases_eq}
use Rattle.ipet_rows.specs.Sums.{coefficient, coefficient_of}
use Rattle.ipet_rows.specs.Programs.{cost_at}
use Rattle.ipet_rows.specs.SumLaws.{term_here, term_elsewhere}
use Rattle.simplex_rules.specs.Tableaus.{placed, turned, slack_line, cost_terms}

-- a term at the place of its variable
term_placed : (c e : ℕ) (a : ℤ) → coefficient_of (suc (suc c), a) (suc (suc e)) ≡ coefficient_of (c, a) e
term_placed c e a = ⊎_elim
    (λ (q : c ≡ e). term_here (suc (suc c)) (suc (suc e)) a (ap (λ (n : ℕ). suc (suc n)) q) ∙ sym (term_here c e a q))
    (λ (d : c ≡ e → ⊥). term_elsewhere (suc (suc c)) (suc (suc e)) a (λ (q : suc (suc c) ≡ suc (suc e)). d (omega arith)) ∙ sym (term_elsewhere c e a d))
    (cases_eq c e)

pub coefficient_placed : (ts : List (ℕ × ℤ)) (e : ℕ) → coefficient (placed ts) (suc (suc e)) ≡ coefficient ts e
coefficient_placed [] e = refl
coefficient_placed (t ∷ ts) e = rw (term_placed t.0 e t.1, coefficient_placed ts e) refl

pub coefficient_placed_low : (ts : List (ℕ × ℤ)) (j : ℕ) → j < 2 → coefficient (placed ts) j ≡ pos 0
coefficient_placed_low [] j low = refl
coefficient_placed_low (t ∷ ts) j low =
    rw (term_elsewhere (suc (suc t.0)) j t.1 (λ (q : suc (suc t.0) ≡ j). absurd (omega arith)), coefficient_placed_low ts j low) refl

term_turned : (c e : ℕ) (a : ℤ) → coefficient_of (c, neg_ℤ a) e ≡ neg_ℤ (coefficient_of (c, a) e)
term_turned c e a = ⊎_elim
    (λ (q : c ≡ e). term_here c e (neg_ℤ a) q ∙ ap neg_ℤ (sym (term_here c e a q)))
    (λ (d : c ≡ e → ⊥). term_elsewhere c e (neg_ℤ a) d ∙ ap neg_ℤ (sym (term_elsewhere c e a d)))
    (cases_eq c e)

pub coefficient_turned : (ts : List (ℕ × ℤ)) (e : ℕ) → coefficient (turned ts) e ≡ neg_ℤ (coefficient ts e)
coefficient_turned [] e = refl
coefficient_turned (t ∷ ts) e = omega (arith, ints, term_turned t.0 e t.1, coefficient_turned ts e)

-- a row's line at the place of a column, and at the right side
pub slack_line_column : (right : ℤ) (ts : List (ℕ × ℤ)) (s e : ℕ) → suc (suc e) < s
    → coefficient (slack_line right ts s).1 (suc (suc e)) ≡ coefficient ts e
slack_line_column right ts s e below =
    omega (
      arith,
      ints,
      term_elsewhere 0 (suc (suc e)) right (λ (q : 0 ≡ suc (suc e)). absurd (omega arith)),
      term_elsewhere s (suc (suc e)) (pos 1) (λ (q : s ≡ suc (suc e)). absurd (omega arith)),
      coefficient_placed ts e,
    )

-- no cost below the first place
pub cost_terms_low : (cs : List ℕ) (j i : ℕ) → i < j → coefficient (cost_terms cs j) i ≡ pos 0
cost_terms_low [] j i low = refl
cost_terms_low (c ∷ cs) j i low =
    omega (arith, ints, term_elsewhere j i (neg_ℤ (pos c)) (λ (q : j ≡ i). absurd (omega arith)), cost_terms_low cs (suc j) i (omega arith))

-- the cost at the place of a column
pub cost_terms_here : (cs : List ℕ) (j e : ℕ) → coefficient (cost_terms cs j) (j + e) ≡ neg_ℤ (pos (cost_at cs e))
cost_terms_here [] j e = refl
cost_terms_here (c ∷ cs) j zero =
    omega (arith, ints, term_here j (j + 0) (neg_ℤ (pos c)) (omega arith), cost_terms_low cs (suc j) (j + 0) (omega arith))
cost_terms_here (c ∷ cs) j (suc e) =
    let q : j + suc e ≡ suc j + e = omega arith in
    let rest : coefficient (cost_terms cs (suc j)) (j + suc e) ≡ neg_ℤ (pos (cost_at cs e)) = rw q (cost_terms_here cs (suc j) e) in
    omega (arith, ints, rest, term_elsewhere j (j + suc e) (neg_ℤ (pos c)) (λ (q : j ≡ j + suc e). absurd (omega arith)))
