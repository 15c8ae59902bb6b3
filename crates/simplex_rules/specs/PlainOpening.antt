-- The opening in plain numbers: no line is divided, and the openings' rows stay.
--   IsPlain p os m t    after m pivots the openings' rows are first lines, and all other lines are freed of m places
use Rattle.std.proofs.Common.{◌≡◌, ◌<◌, ℕ, ℤ, List, length}
use Rattle.std.specs.Prelude.{◌-ℤ◌, ◌*ℤ◌}
use Rattle.ipet_rows.specs.Sums.{total}
use Rattle.ipet_rows.specs.Programs.{Program}
use Rattle.ipet_rows.specs.Firsts.{entry}
use Rattle.simplex_rules.specs.Tableaus.{Tableau, number_at}
use Rattle.simplex_rules.specs.PivotRule.{opening_at}
use Rattle.simplex_rules.specs.Promise.{lines_of, coefficient_at, cost_of, Opens}

-- ---- the opening

-- a line, freed of the first m places
abbrev pub freed_of : Program → List (ℕ × ℕ) → (ℕ → ℤ) → ℕ → ℕ → ℤ
freed_of p os f m j = f j -ℤ total m (λ i. f (opening_at os i).1 *ℤ coefficient_at p (opening_at os i).0 j)

pub record IsPlain (p : Program) (os : List (ℕ × ℕ)) (m : ℕ) (t : Tableau) : Type 0 where
  pub count : length t.rows ≡ length (lines_of p)
  pub rows : (i : ℕ) → i < length os → (j : ℕ)
      → number_at t (opening_at os i).0 j ≡ coefficient_at p (opening_at os i).0 j
  pub others : (k : ℕ) → k < length (lines_of p) → ((i : ℕ) → i < length os → k ≡ (opening_at os i).0 → ⊥) → (j : ℕ)
      → number_at t k j ≡ freed_of p os (coefficient_at p k) m j
  pub objective : (j : ℕ) → entry t.objective j ≡ freed_of p os (cost_of p) m j
