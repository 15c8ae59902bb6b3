-- The point of a tableau, in fractions.
--   fraction_of hs j      the right side over the number at the place, of the row whose basic place is j; else 0
--   fractions hs n j      those of the places j to j + n - 1
use Rattle.std.specs.Prelude.{ℕ, zero, suc, ℤ, pos, ◌==◌, if◌then◌else◌, List, [], ◌∷◌}
use Rattle.ipet_rows.specs.Firsts.{entry}
use Rattle.simplex_rules.specs.Tableaus.{Held}
use Rattle.simplex_rules.specs.Promise.{own_of}

-- the right side over the number at the place, of the row whose basic place is j; else 0
abbrev pub fraction_of : List Held → ℕ → ℤ × ℤ
fraction_of [] j = (pos 0, pos 1)
fraction_of (h ∷ hs) j = if j == h.basic then (entry h.line 0, own_of h) else fraction_of hs j

-- those of the places j to j + n - 1
abbrev pub fractions : List Held → ℕ → ℕ → List (ℤ × ℤ)
fractions hs zero j = []
fractions hs (suc n) j = fraction_of hs j ∷ fractions hs n (suc j)
