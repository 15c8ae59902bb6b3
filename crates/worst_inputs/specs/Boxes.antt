-- Boxes: areas with their bounds, and how a list of them is split.
--   Box                    an area with its bound
--   Answers                what is answered of areas
--   worst_of boxes         the greatest bound
--   HasPoint boxes bound   some box of this bound is a point
--   HasPointAtTop boxes    some box of greatest bound is a point
--   Halves area            how an area is halved: at the middle of its widest range, the first of equals
--   lower_of halves, upper_of halves   the two halves
--   AreHalves area lower upper     the areas are these
--   Cut boxes              what a split takes: the first box of greatest bound, and the halves of its area
--   IsCutAt boxes place lower upper   the cut at this place, with its halves
--   IsSplit answers boxes next   the halves stand in the place of the box, with their bounds
--   IsStopped answers boxes scope   a half has no bound, the lower tried first
--   Splits answers ranges n boxes   the boxes after n splits from the one box of the ranges
use Rattle.std.specs.Prelude.{◌≡◌, ◌<◌, ◌+◌, ℕ, suc, ℤ, pos, ◌+ℤ◌, List, [], ◌∷◌, ◌++◌, ◌⊎◌, length, take, drop}
use Rattle.std.specs.List.{Contains}
use Rattle.worst_inputs.specs.declared.area.Range.{Range}
use Rattle.worst_inputs.specs.declared.bounder.Bounded.{Bounded}
use Rattle.worst_inputs.specs.declared.bounder.Bounded.TheVariants.{At, Left}
use Rattle.worst_inputs.specs.Most.{most_by, IsFirstMost}
use Rattle.worst_inputs.specs.Areas.{Area, width_of, IsPoint, IsMiddle}

-- an area with its bound
pub record Box : Type 0 where
  pub area : Area
  pub bound : ℕ

-- what is answered of areas
abbrev pub Answers : Type 1
Answers = Area → Bounded → Type 0

abbrev pub bound_of : Box → ℕ
bound_of box = box.bound

-- the greatest bound
abbrev pub worst_of : List Box → ℕ
worst_of boxes = most_by bound_of boxes

-- some box of this bound is a point
pub record HasPoint (boxes : List Box) (bound : ℕ) : Type 0 where
  pub box : Box
  pub among : Contains boxes box
  pub is : box.bound ≡ bound
  pub point : IsPoint box.area

-- some box of greatest bound is a point
abbrev pub HasPointAtTop : List Box → Type 0
HasPointAtTop boxes = HasPoint boxes (worst_of boxes)

-- how an area is halved
pub record Halves (area : Area) : Type 0 where
  -- its widest range, the first of equals
  pub before : Area
  pub range : Range
  pub after : Area
  pub widest : IsFirstMost width_of area before range after
  -- half of low + high rounded down
  pub middle : ℤ
  pub half : IsMiddle range middle

-- the area with low to middle
abbrev pub lower_of : {area : Area} → Halves area → Area
lower_of halves = halves.before ++ record { low = halves.range.low; high = halves.middle } ∷ halves.after

-- the area with middle + 1 to high
abbrev pub upper_of : {area : Area} → Halves area → Area
upper_of halves = halves.before ++ record { low = halves.middle +ℤ pos 1; high = halves.range.high } ∷ halves.after

-- the areas are the two halves
pub record AreHalves (area lower upper : Area) : Type 0 where
  pub halves : Halves area
  pub lower_is : lower ≡ lower_of halves
  pub upper_is : upper ≡ upper_of halves

-- what a split takes: the first box of greatest bound, and the halves of its area
pub record Cut (boxes : List Box) : Type 0 where
  pub front : List Box
  pub box : Box
  pub rest : List Box
  pub worst : IsFirstMost bound_of boxes front box rest
  pub halves : Halves box.area

-- the cut at this place, with its halves
pub record IsCutAt (boxes : List Box) (place : ℕ) (lower upper : Area) : Type 0 where
  pub cut : Cut boxes
  pub low : place < length boxes
  pub front_is : cut.front ≡ take place boxes
  pub rest_is : cut.rest ≡ drop (place + 1) boxes
  pub lower_is : lower ≡ lower_of cut.halves
  pub upper_is : upper ≡ upper_of cut.halves

-- the halves stand in the place of the box, with their bounds, in this order
pub record IsSplit (answers : Answers) (boxes next : List Box) : Type 0 where
  pub cut : Cut boxes
  pub lower : ℕ
  pub upper : ℕ
  pub lower_is : answers (lower_of cut.halves) (At lower)
  pub upper_is : answers (upper_of cut.halves) (At upper)
  pub next_is : next ≡ cut.front ++ record { area = lower_of cut.halves; bound = lower }
      ∷ record { area = upper_of cut.halves; bound = upper } ∷ cut.rest

-- a half has no bound: the lower, or else the upper
pub record IsStopped (answers : Answers) (boxes : List Box) (scope : ℕ) : Type 0 where
  pub cut : Cut boxes
  pub left : answers (lower_of cut.halves) (Left scope)
      ⊎ ((lower : ℕ) × answers (lower_of cut.halves) (At lower) × answers (upper_of cut.halves) (Left scope))

-- the boxes after so many splits
pub data Splits (answers : Answers) (ranges : Area) : ℕ → List Box → Type 0 where
  -- the one box of the ranges
  begins : (bound : ℕ) → answers ranges (At bound)
      → Splits answers ranges 0 (record { area = ranges; bound = bound } ∷ [])
  -- one split more, where no box of greatest bound is a point
  goes_on : (n : ℕ) (boxes next : List Box) → Splits answers ranges n boxes → ¬ HasPointAtTop boxes
      → IsSplit answers boxes next → Splits answers ranges (suc n) next
