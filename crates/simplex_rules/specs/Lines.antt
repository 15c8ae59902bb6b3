-- Lines: equations in whole numbers. Place 0 has the right side, place 1 the objective's scale,
-- place 2 + v the number of variable v. Shows: right side and scale as places, so that one rule serves all.
--   mixed a b f h    a times f less b times h
--   line_gcd f       the greatest common divisor of the numbers of f
--   reduced f        f, divided by it
--   cleared e h f    f, freed of place e by h
use Rattle.std.specs.Prelude.{ℕ, zero, suc, ℤ, pos, ◌-ℤ◌, ◌*ℤ◌, List, [], ◌∷◌}
use Rattle.std.specs.Int.{int_div_euclid}
use Rattle.whole_numbers.specs.Numbers.{gcd}
use Rattle.ipet_rows.specs.Sums.{coefficient}
use Rattle.ipet_rows.specs.Firsts.{entry}

-- the numbers of the terms at the places from j on, n of them
abbrev pub spread : ℕ → ℕ → List (ℕ × ℤ) → List ℤ
spread zero j ts = []
spread (suc n) j ts = coefficient ts j ∷ spread n (suc j) ts

-- a times each number
abbrev pub times_line : ℤ → List ℤ → List ℤ
times_line a [] = []
times_line a (x ∷ f) = (a *ℤ x) ∷ times_line a f

-- a times the first less b times the second
abbrev pub mixed : ℤ → ℤ → List ℤ → List ℤ → List ℤ
mixed a b [] [] = []
mixed a b [] (y ∷ h) = (pos 0 -ℤ (b *ℤ y)) ∷ mixed a b [] h
mixed a b (x ∷ f) [] = ((a *ℤ x) -ℤ pos 0) ∷ mixed a b f []
mixed a b (x ∷ f) (y ∷ h) = ((a *ℤ x) -ℤ (b *ℤ y)) ∷ mixed a b f h

-- the greatest common divisor of the numbers
abbrev pub line_gcd : List ℤ → ℤ
line_gcd [] = pos 0
line_gcd (x ∷ f) = gcd x (line_gcd f)

-- each number divided by g
abbrev pub divided : ℤ → List ℤ → List ℤ
divided g [] = []
divided g (x ∷ f) = int_div_euclid x g ∷ divided g f

-- divided by the greatest common divisor
abbrev pub reduced : List ℤ → List ℤ
reduced f = divided (line_gcd f) f

-- the line freed of place e by the row h
abbrev pub cleared : ℕ → List ℤ → List ℤ → List ℤ
cleared e h f =
    let g = gcd (entry h e) (entry f e) in
    reduced (mixed (int_div_euclid (entry h e) g) (int_div_euclid (entry f e) g) f h)
