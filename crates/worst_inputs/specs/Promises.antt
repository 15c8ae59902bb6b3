-- What a list of boxes promises, from the laws of a bounder alone.
--   IsGreatestCost costs ranges worst    an input inside the ranges costs this, and none costs more
--   Bounds costs ranges found            the boxes cover the ranges and no more, each input of a box costs at most its
--       bound, and where the greatest bound is exact, it is the greatest cost of an input inside the ranges
--   HasOneAnswer b                   the law: a search has one answer
use Rattle.std.specs.Prelude.{◌≡◌, ℕ, ℤ, List, IsTrue, Result}
use Rattle.std.specs.List.{All, Contains}
use Rattle.worst_inputs.specs.Areas.{Area, IsRange, IsInside}
use Rattle.worst_inputs.specs.Bounders.{Bounding, Costs, CostsAtMost}
use Rattle.worst_inputs.specs.Boxes.{Box, worst_of}
use Rattle.worst_inputs.specs.Searches.{Searched, IsAnswer}

-- an input inside the ranges costs this, and none costs more
pub record IsGreatestCost (costs : Costs) (ranges : Area) (worst : ℕ) : Type 0 where
  pub input : List ℤ
  pub inside : IsInside ranges input
  pub is : costs input worst
  pub most : (other : List ℤ) → IsInside ranges other → CostsAtMost costs other worst

pub record Bounds (costs : Costs) (ranges : Area) (found : Searched) : Type 0 where
  -- each input inside the ranges is inside a box
  pub covers : (input : List ℤ) → IsInside ranges input
      → (box : Box) × Contains found.boxes box × IsInside box.area input
  -- and each inside a box is inside the ranges
  pub within : (box : Box) (input : List ℤ) → Contains found.boxes box → IsInside box.area input → IsInside ranges input
  -- each input inside a box costs at most its bound
  pub bounds : (box : Box) (input : List ℤ) → Contains found.boxes box → IsInside box.area input
      → CostsAtMost costs input box.bound
  -- where the greatest bound is exact, it is the greatest cost
  pub exact : IsTrue found.exact → IsGreatestCost costs ranges (worst_of found.boxes)

-- a search has one answer
abbrev pub HasOneAnswer : Bounding → Type 0
HasOneAnswer b = (ranges : Area) (splits : ℕ) (first second : Result Searched ℕ) → b.suits ranges → All IsRange ranges
    → IsAnswer b.answers ranges splits first → IsAnswer b.answers ranges splits second → first ≡ second
