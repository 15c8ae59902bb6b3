-- Laws of reducing.
--   DividesEach d ts     d divides each term's number
use Rattle.std.specs.Prelude.{ℕ, ℤ, List, [], ◌∷◌}
use Rattle.whole_numbers.specs.Numbers.{Divides}

-- d divides each term's number
abbrev pub DividesEach : ℤ → List (ℕ × ℤ) → Type 0
DividesEach d [] = Unit {0}
DividesEach d (t ∷ ts) = Divides d t.1 × DividesEach d ts
