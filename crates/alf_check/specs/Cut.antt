-- Where blocks begin and end among the items, counted as the code counts.
--   begins_after item items    a block begins after the item, where these follow it
--   first_length items          how many items the first block has
--   number_after n item items  the number of the block of the item after one of block n
--   numbers_along n items       for each item the number of its block, where the first has this number
use Rattle.std.specs.Prelude.{ℕ, suc, Bool, false, List, [], ◌∷◌, if◌then◌else◌}
use Rattle.alf_program.specs.Tree.{BodyItem}
use Rattle.alf_check.specs.Blocks.{begins_between}

-- a block begins after the item
abbrev pub begins_after : BodyItem → List BodyItem → Bool
begins_after item [] = false
begins_after item (next ∷ items) = begins_between item next

-- how many items the first block has
abbrev pub first_length : List BodyItem → ℕ
first_length [] = 0
first_length (item ∷ items) = if begins_after item items then 1 else suc (first_length items)

-- the number of the block of the next item
abbrev pub number_after : ℕ → BodyItem → List BodyItem → ℕ
number_after n item items = if begins_after item items then suc n else n

-- for each item the number of its block
abbrev pub numbers_along : ℕ → List BodyItem → List ℕ
numbers_along n [] = []
numbers_along n (item ∷ items) = n ∷ numbers_along (number_after n item items) items
