-- What a search for the worst inputs finds.
--   seen_box, seen_boxes, found_of   the code's boxes and what it found, as these
--   Searched            boxes, and whether the greatest bound is exact
--   IsSearched answers ranges splits found   the boxes where splitting ends
--   IsLeftIn answers ranges splits scope     a box has no bound, the first that is made
--   IsAnswer answers ranges splits answer    the one or the other
--   IsLeftOf, IsStoppedBy                    what is told of an area that has no bound, and where boxes are not split
--   IsFaultOf answers ranges splits fault    what is told where there are no boxes
use Rattle.std.specs.Prelude.{◌≡◌, ◌≤◌, ◌<◌, ◌⊎◌, ◌↔◌, ℕ, Bool, List, IsTrue, Result, Ok, Err, ⊤, map}
use Rattle.std.specs.Global.{Vec}
use Rattle.worst_inputs.specs.declared.area.Range.{Range}
use Rattle.worst_inputs.specs.declared.bounder.Bounded.TheVariants.{Left}
use Rattle.worst_inputs.specs.declared.found.Found.{Found}
use Rattle.worst_inputs.specs.declared.fault.SearchFault.{SearchFault}
use Rattle.worst_inputs.specs.declared.fault.SearchFault.TheVariants.{Left as LeftIn, Memory}
use Rattle.worst_inputs.specs.Areas.{Area}
use Rattle.worst_inputs.specs.Boxes.{Box, Answers, HasPointAtTop, IsStopped, Splits}

-- boxes, and whether the greatest bound is exact
pub record Searched : Type 0 where
  pub boxes : List Box
  pub exact : Bool

-- an area with its bound, as a box
abbrev pub seen_box : Vec Range × ℕ → Box
seen_box pair = record { area = pair.0.items; bound = pair.1 }

abbrev pub seen_boxes : List (Vec Range × ℕ) → List Box
seen_boxes pairs = map seen_box pairs

-- what is found, as boxes
abbrev pub found_of : Found → Searched
found_of found = record { boxes = seen_boxes found.boxes.items; exact = found.exact }

-- the boxes where splitting ends: some box of greatest bound is a point, or these were all splits
pub record IsSearched (answers : Answers) (ranges : Area) (splits : ℕ) (found : Searched) : Type 0 where
  pub made : ℕ
  pub within : made ≤ splits
  pub boxes : Splits answers ranges made found.boxes
  pub ends : HasPointAtTop found.boxes ⊎ (made ≡ splits)
  pub exact : IsTrue found.exact ↔ HasPointAtTop found.boxes

-- a box has no bound, the first that is made: that of the ranges, or a half of a split
pub data IsLeftIn (answers : Answers) (ranges : Area) (splits : ℕ) (scope : ℕ) : Type 0 where
  at_first : answers ranges (Left scope) → IsLeftIn answers ranges splits scope
  at_half : (n : ℕ) (boxes : List Box) → n < splits → Splits answers ranges n boxes → ¬ HasPointAtTop boxes
      → IsStopped answers boxes scope → IsLeftIn answers ranges splits scope

-- the one or the other
abbrev pub IsAnswer : Answers → Area → ℕ → Result Searched ℕ → Type 0
IsAnswer answers ranges splits (Ok found) = IsSearched answers ranges splits found
IsAnswer answers ranges splits (Err scope) = IsLeftIn answers ranges splits scope

-- what is told of an area that has no bound; want of memory tells nothing
abbrev pub IsLeftOf : Answers → Area → SearchFault → Type 0
IsLeftOf answers area (LeftIn scope) = answers area (Left scope)
IsLeftOf answers area Memory = ⊤

-- what is told where boxes are not split; want of memory tells nothing
abbrev pub IsStoppedBy : Answers → List Box → SearchFault → Type 0
IsStoppedBy answers boxes (LeftIn scope) = IsStopped answers boxes scope
IsStoppedBy answers boxes Memory = ⊤

-- what is told where there are no boxes; want of memory tells nothing
abbrev pub IsFaultOf : Answers → Area → ℕ → SearchFault → Type 0
IsFaultOf answers ranges splits (LeftIn scope) = IsLeftIn answers ranges splits scope
IsFaultOf answers ranges splits Memory = ⊤
