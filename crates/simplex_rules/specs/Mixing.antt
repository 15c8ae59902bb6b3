-- Lines as functions of the place: spans and values. Shows: the invariants need only `g f' = a f - b h`, whatever the
-- factors.
use Rattle.std.proofs.Common.{◌≡◌, ℕ, ℤ, pos, List, [], ◌∷◌}
use Rattle.std.specs.Prelude.{◌+ℤ◌, ◌-ℤ◌, ◌*ℤ◌, ◌≤ℤ◌}
use Rattle.ipet_rows.specs.Sums.{total, coefficient}
use Rattle.simplex_rules.specs.Tableaus.{Generator}

-- f' is a times f less b times h, divided by g
pub record IsMixed (g a b : ℤ) (f h f' : ℕ → ℤ) : Type 0 where
  pub divisor : pos 1 ≤ℤ g
  pub factor : pos 1 ≤ℤ a
  pub is : (j : ℕ) → g *ℤ f' j ≡ (a *ℤ f j) -ℤ (b *ℤ h j)

-- Spans: the number at a generator's mark is its factor.

-- the generators, each times the number of f at its mark
abbrev pub combination : List Generator → (ℕ → ℤ) → ℕ → ℤ
combination [] f j = pos 0
combination (g ∷ gs) f j = (f g.0 *ℤ coefficient g.1 j) +ℤ combination gs f j

-- f is the generators, each times the number of f at its mark
pub record IsSpanned (gs : List Generator) (f : ℕ → ℤ) : Type 0 where
  pub is : (j : ℕ) → f j ≡ combination gs f j

-- Values: a line at the numbers x of the places.

-- the line at the numbers x of the first w places
abbrev pub along : ℕ → (ℕ → ℤ) → (ℕ → ℤ) → ℤ
along w f x = total w (λ j. f j *ℤ x j)
