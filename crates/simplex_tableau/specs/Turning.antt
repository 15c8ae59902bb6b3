-- Lines by terms, turned.
--   turned_fits ts   each number fits, turned
use Rattle.std.specs.Prelude.{ℕ, ℤ, neg_ℤ, Bool, true, ◌&&◌, List, [], ◌∷◌}
use Rattle.ipet_rows.specs.Firsts.{fits}

-- each number fits, turned
abbrev pub turned_fits : List (ℕ × ℤ) → Bool
turned_fits [] = true
turned_fits (t ∷ ts) = fits (neg_ℤ t.1) && turned_fits ts
