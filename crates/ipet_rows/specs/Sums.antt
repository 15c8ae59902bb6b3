-- Sums over places, and lines that are kept as terms: pairs of a place and a number.
--   total n f          f 0 + .. + f (n - 1)
--   coefficient ts e   what the terms have at place e
--   value_at ts x      the terms at the values x
--   IsAscending ts     the terms' places rise
use Rattle.std.specs.Prelude.{ℕ, zero, suc, ℤ, pos, ◌+ℤ◌, ◌*ℤ◌, ◌==◌, ◌<◌, if◌then◌else◌, List, [], ◌∷◌}

-- f 0 + .. + f (n - 1)
abbrev pub total : ℕ → (ℕ → ℤ) → ℤ
total zero f = pos 0
total (suc n) f = total n f +ℤ f n

-- what one term has at the place
abbrev pub coefficient_of : ℕ × ℤ → ℕ → ℤ
coefficient_of t e = if t.0 == e then t.1 else pos 0

-- what the terms have at the place
abbrev pub coefficient : List (ℕ × ℤ) → ℕ → ℤ
coefficient [] e = pos 0
coefficient (t ∷ ts) e = coefficient_of t e +ℤ coefficient ts e

-- the terms at the values x
abbrev pub value_at : List (ℕ × ℤ) → (ℕ → ℤ) → ℤ
value_at [] x = pos 0
value_at (t ∷ ts) x = (t.1 *ℤ x t.0) +ℤ value_at ts x

-- the terms' places rise
abbrev pub StartsAbove : ℕ → List (ℕ × ℤ) → Type 0
StartsAbove c [] = Unit {0}
StartsAbove c (t ∷ ts) = c < t.0

abbrev pub IsAscending : List (ℕ × ℤ) → Type 0
IsAscending [] = Unit {0}
IsAscending (t ∷ ts) = StartsAbove t.0 ts × IsAscending ts
