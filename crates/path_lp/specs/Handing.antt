-- What a tableau hands out, by terms.
--   multiplier_by equation s ts   the multiplier of a row whose first slack is s
--   multipliers_by rs s ts        those of the rows
--   IsHanded p t scale y          the scale and the multipliers are those that the tableau hands out
use Rattle.std.specs.Prelude.{◌≡◌, ℕ, suc, ℤ, ◌-ℤ◌, Bool, true, false, List, [], ◌∷◌}
use Rattle.ipet_rows.specs.Sums.{coefficient}
use Rattle.ipet_rows.specs.Programs.{Row, Program}
use Rattle.ipet_rows.specs.Firsts.{entry}
use Rattle.simplex_rules.specs.Tableaus.{Tableau, next_slack}
use Rattle.simplex_rules.specs.Promise.{handed}

-- the multiplier of a row whose first slack is s
abbrev pub multiplier_by : Bool → ℕ → List (ℕ × ℤ) → ℤ
multiplier_by true s ts = coefficient ts s -ℤ coefficient ts (suc s)
multiplier_by false s ts = coefficient ts s

-- those of the rows
abbrev pub multipliers_by : List Row → ℕ → List (ℕ × ℤ) → List ℤ
multipliers_by [] s ts = []
multipliers_by (r ∷ rs) s ts = multiplier_by r.equation s ts ∷ multipliers_by rs (next_slack r.equation s) ts

-- the scale and the multipliers are those that the tableau hands out
pub record IsHanded (p : Program) (t : Tableau) (scale : ℤ) (y : List ℤ) : Type 0 where
  pub scale_is : scale ≡ entry t.objective 1
  pub multipliers : y ≡ handed p t
