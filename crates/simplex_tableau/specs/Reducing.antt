-- Lines by terms, divided by their greatest common divisor.
--   gcd_from g ts        the greatest common divisor of g and the terms' numbers, from the left
--   divided_terms g ts   each number divided by g
use Rattle.std.specs.Prelude.{ℕ, ℤ, List, [], ◌∷◌}
use Rattle.std.specs.Int.{int_div_euclid}
use Rattle.whole_numbers.specs.Numbers.{gcd}

-- the greatest common divisor of g and the terms' numbers
abbrev pub gcd_from : ℤ → List (ℕ × ℤ) → ℤ
gcd_from g [] = g
gcd_from g (t ∷ ts) = gcd_from (gcd g t.1) ts

-- each number divided by g
abbrev pub divided_terms : ℤ → List (ℕ × ℤ) → List (ℕ × ℤ)
divided_terms g [] = []
divided_terms g (t ∷ ts) = (t.0, int_div_euclid t.1 g) ∷ divided_terms g ts
