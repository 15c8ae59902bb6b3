-- The multipliers of a spanned objective are a dual point: the number at a slack's place is the line's factor.
use Rattle.std.proofs.Common.{ℕ, ℤ, pos, ◌<◌, ◌≤◌, List}
use Rattle.std.specs.Prelude.{◌≤ℤ◌}
use Rattle.ipet_rows.specs.Firsts.{entry}

-- the numbers of the objective at the variables' places are at least 0
pub record IsRising (w : ℕ) (d : List ℤ) : Type 0 where
  pub is : (j : ℕ) → 2 ≤ j → j < w → pos 0 ≤ℤ entry d j
