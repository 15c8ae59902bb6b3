-- Sizes of operands.
--   sizes_fit bits_of sizes args   the test whether there is one set of each size
use Rattle.std.specs.Prelude.{ℕ, Bool, true, false, List, [], ◌∷◌, ◌==◌, ◌&&◌}

-- there is one set of each size
abbrev pub sizes_fit : {D : Type 0} → (D → ℕ) → List ℕ → List D → Bool
sizes_fit bits_of [] [] = true
sizes_fit bits_of [] (d ∷ args) = false
sizes_fit bits_of (size ∷ sizes) [] = false
sizes_fit bits_of (size ∷ sizes) (d ∷ args) = (bits_of d == size) && sizes_fit bits_of sizes args
