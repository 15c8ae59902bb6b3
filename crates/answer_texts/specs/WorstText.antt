-- What `worst` tells of boxes of inputs.
--   range_text range     its low and its high as signed decimals, with a space before each
--   box_line box         the bound of a box, and the range that it gives each row
--   worst_line found     the greatest bound, and whether some run costs as much
--   worst_text found     a line for each box, and that line
use Rattle.std.specs.Prelude.{ℕ, Bool, true, false, List, [], ◌∷◌, ◌++◌, codes, decimal}
use Rattle.std.specs.List.{flat_map}
use Rattle.std.specs.Fmt.{signed_decimal}
use Rattle.worst_inputs.specs.declared.area.Range.{Range}
use Rattle.worst_inputs.specs.Boxes.{Box, worst_of}
use Rattle.worst_inputs.specs.Searches.{Searched}

-- the low and the high of a range, with a space before each
abbrev pub range_text : Range → List ℕ
range_text range = 32 ∷ (signed_decimal range.low ++ (32 ∷ signed_decimal range.high))

-- `box V`, and the range of each row
abbrev pub box_line : Box → List ℕ
box_line box = codes "box " ++ (decimal box.bound ++ (flat_map range_text box.area ++ 10 ∷ []))

-- whether the greatest bound is the greatest cost
abbrev pub exact_word : Bool → List ℕ
exact_word true = codes " exact\n"
exact_word false = codes " at-most\n"

-- `worst V exact` or `worst V at-most`
abbrev pub worst_line : Searched → List ℕ
worst_line found = codes "worst " ++ (decimal (worst_of found.boxes) ++ exact_word found.exact)

-- a line for each box in order, and the greatest bound
abbrev pub worst_text : Searched → List ℕ
worst_text found = flat_map box_line found.boxes ++ worst_line found
