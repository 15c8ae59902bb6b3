-- What the two choices of the rule say.
use Rattle.std.proofs.Common.{ℕ, ℤ, pos, suc, ◌<◌, ◌≤◌, List, Option, Some, None}
use Rattle.std.specs.Prelude.{◌*ℤ◌, ◌≤ℤ◌, ◌<ℤ◌, neg_ℤ}
use Rattle.ipet_rows.specs.Firsts.{entry}
use Rattle.simplex_rules.specs.Tableaus.{Tableau, number_at}

-- among the first n rows none has a negative right side, or the one chosen has
abbrev pub IsLeaving : Tableau → ℕ → Option ℕ → Type 0
IsLeaving t n None = (k : ℕ) → k < n → pos 0 ≤ℤ number_at t k 0
IsLeaving t n (Some r) = (r < n) × (number_at t r 0 <ℤ pos 0)

-- Ratios.

-- a/b is at most c/d
abbrev pub NoMore : ℤ → ℤ → ℤ → ℤ → Type 0
NoMore a b c d = (a *ℤ d) ≤ℤ (c *ℤ b)

-- the place has a negative number, and no variable before the n-th with one has a lesser ratio
pub record IsEntering (row d : List ℤ) (n e : ℕ) : Type 0 where
  pub least : 2 ≤ e
  pub most : e < suc (suc n)
  pub below : entry row e <ℤ pos 0
  pub ratio : (j : ℕ) → 2 ≤ j → j < suc (suc n) → entry row j <ℤ pos 0
      → NoMore (entry d e) (neg_ℤ (entry row e)) (entry d j) (neg_ℤ (entry row j))

abbrev pub EnteringIs : List ℤ → List ℤ → ℕ → Option ℕ → Type 0
EnteringIs row d n None = (j : ℕ) → 2 ≤ j → j < suc (suc n) → pos 0 ≤ℤ entry row j
EnteringIs row d n (Some e) = IsEntering row d n e
