-- Searches that are worked out.
--   two lx hx ly hy       the area of two rows, from lx to hx and from ly to hy
--   told                  a table of areas of two rows, and what is answered of each
--   boxes_of_1, boxes_of_2, boxes_of_3   the boxes after so many splits of 0 to 5 and -4 to 1
--   one_row low high      the area of one row
--   told_of_one           a table of areas of one row
use Rattle.std.specs.Prelude.{ℤ, pos, negsuc, ℕ, List, [], ◌∷◌, Contains}
use Rattle.worst_inputs.specs.declared.bounder.Bounded.{Bounded}
use Rattle.worst_inputs.specs.declared.bounder.Bounded.TheVariants.{At, Left}
use Rattle.worst_inputs.specs.Areas.{Area}
use Rattle.worst_inputs.specs.Boxes.{Answers, Box}

abbrev pub two : ℤ → ℤ → ℤ → ℤ → Area
two lx hx ly hy = record { low = lx; high = hx } ∷ record { low = ly; high = hy } ∷ []

abbrev pub rows : List (Area × Bounded)
rows = (two (pos 0) (pos 5) (negsuc 3) (pos 1), At 90)
    ∷ (two (pos 0) (pos 2) (negsuc 3) (pos 1), At 50)
    ∷ (two (pos 3) (pos 5) (negsuc 3) (pos 1), At 90)
    ∷ (two (pos 3) (pos 5) (negsuc 3) (negsuc 1), At 50)
    ∷ (two (pos 3) (pos 5) (negsuc 0) (pos 1), At 40)
    ∷ (two (pos 0) (pos 2) (negsuc 3) (negsuc 1), At 30)
    ∷ (two (pos 0) (pos 2) (negsuc 0) (pos 1), At 20)
    ∷ []

abbrev pub told : Answers
told area bounded = Contains rows (area, bounded)

abbrev box : ℤ → ℤ → ℤ → ℤ → ℕ → Box
box lx hx ly hy bound = record { area = two lx hx ly hy; bound = bound }

-- the first of two equally wide ranges is split
abbrev pub boxes_of_1 : List Box
boxes_of_1 = box (pos 0) (pos 2) (negsuc 3) (pos 1) 50 ∷ box (pos 3) (pos 5) (negsuc 3) (pos 1) 90 ∷ []

-- the second box has the greater bound, and its second range is the wider
abbrev pub boxes_of_2 : List Box
boxes_of_2 = box (pos 0) (pos 2) (negsuc 3) (pos 1) 50 ∷ box (pos 3) (pos 5) (negsuc 3) (negsuc 1) 50
    ∷ box (pos 3) (pos 5) (negsuc 0) (pos 1) 40 ∷ []

-- the first of two boxes of one bound is split
abbrev pub boxes_of_3 : List Box
boxes_of_3 = box (pos 0) (pos 2) (negsuc 3) (negsuc 1) 30 ∷ box (pos 0) (pos 2) (negsuc 0) (pos 1) 20
    ∷ box (pos 3) (pos 5) (negsuc 3) (negsuc 1) 50 ∷ box (pos 3) (pos 5) (negsuc 0) (pos 1) 40 ∷ []

-- a table of areas of one row: 6 to 7 has no bound
abbrev pub one_row : ℤ → ℤ → Area
one_row low high = record { low = low; high = high } ∷ []

abbrev pub rows_of_one : List (Area × Bounded)
rows_of_one = (one_row (pos 0) (pos 1), At 9) ∷ (one_row (pos 0) (pos 0), At 5) ∷ (one_row (pos 1) (pos 1), At 9)
    ∷ (one_row (pos 4) (pos 7), At 9) ∷ (one_row (pos 4) (pos 5), At 5) ∷ (one_row (pos 6) (pos 7), Left 3) ∷ []

abbrev pub told_of_one : Answers
told_of_one area bounded = Contains rows_of_one (area, bounded)
