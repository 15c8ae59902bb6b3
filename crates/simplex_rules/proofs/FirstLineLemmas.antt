-- Laws of first lines.
use Rattle.std.proofs.Common.{◌≡◌, ℕ, ℤ, pos, suc, ◌+◌, ◌≤◌, arith, refl, ap, List, [], ◌∷◌, length}
use Rattle.std.specs.Prelude.{◌*ℤ◌, neg_ℤ}
use Rattle.std.proofs.lemmas.Int.{ints}
use Rattle.ipet_rows.specs.Sums.{total, coefficient, value_at}
use Rattle.ipet_rows.specs.Programs.{cost_at}
use Rattle.ipet_rows.specs.SumLaws.{term_here, term_elsewhere, total_first, total_same, neg_times}
use Rattle.simplex_rules.specs.Tableaus.{placed, turned, slack_line, cost_terms}
use Rattle.simplex_rules.specs.FirstLineLaws.{coefficient_placed_low}

pub slack_line_right : (right : ℤ) (ts : List (ℕ × ℤ)) (s : ℕ) → 2 ≤ s → coefficient (slack_line right ts s).1 0 ≡ right
slack_line_right right ts s least =
    omega (
      arith,
      ints,
      term_here 0 0 right refl,
      term_elsewhere s 0 (pos 1) (λ (q : s ≡ 0). absurd (omega arith)),
      coefficient_placed_low ts 0 (omega arith),
    )

-- Values of the first lines.

pub value_placed : (ts : List (ℕ × ℤ)) (x : ℕ → ℤ) → value_at (placed ts) x ≡ value_at ts (λ e. x (suc (suc e)))
value_placed [] x = refl
value_placed (t ∷ ts) x = rw (value_placed ts x) refl

pub value_turned : (ts : List (ℕ × ℤ)) (x : ℕ → ℤ) → value_at (turned ts) x ≡ neg_ℤ (value_at ts x)
value_turned [] x = refl
value_turned (t ∷ ts) x = omega (arith, ints, value_turned ts x, neg_times t.1 (x t.0))

pub value_costs : (cs : List ℕ) (j : ℕ) (x : ℕ → ℤ)
    → value_at (cost_terms cs j) x ≡ neg_ℤ (total (length cs) (λ e. pos (cost_at cs e) *ℤ x (j + e)))
value_costs [] j x = refl
value_costs (c ∷ cs) j x =
    let first_part = total_first (length cs) (λ e. pos (cost_at (c ∷ cs) e) *ℤ x (j + e)) in
    let moved : total (length cs) (λ e. pos (cost_at cs e) *ℤ x (suc j + e)) ≡ total (length cs) (λ e. pos (cost_at cs e) *ℤ x (j + suc e)) =
    total_same (length cs) (λ e. pos (cost_at cs e) *ℤ x (suc j + e)) (λ e. pos (cost_at cs e) *ℤ x (j + suc e)) (λ e below. ap (λ (n : ℕ). pos (cost_at cs e) *ℤ x n) (omega arith)) in
    let here : pos c *ℤ x (j + 0) ≡ pos c *ℤ x j = ap (λ (n : ℕ). pos c *ℤ x n) (omega arith) in
    omega (arith, ints, first_part, moved, here, value_costs cs (suc j) x, neg_times (pos c) (x j))
