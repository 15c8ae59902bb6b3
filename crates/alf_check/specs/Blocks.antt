-- Blocks of a function's items.
--   ends_block item            a block ends with this item
--   is_label item              the item is a label
--   begins_between item next   a block begins between two items that follow one another
--   blocks_of items            the items, cut into blocks in the order of the text
use Rattle.std.specs.Prelude.{Bool, true, false, not, ◌&&◌, ◌||◌, List, [], ◌∷◌, if◌then◌else◌}
use Rattle.alf_program.specs.Tree.{Null, Store, Jump, Switch, Call, Return, BodyItem, Label, Do}

-- a block ends with a jump, a switch, a call or a return
abbrev pub ends_block : BodyItem → Bool
ends_block (Label name) = false
ends_block (Do Null) = false
ends_block (Do (Store at value)) = false
ends_block (Do (Jump label)) = true
ends_block (Do (Switch value targets others)) = true
ends_block (Do (Call label args result)) = true
ends_block (Do (Return value)) = true

abbrev pub is_label : BodyItem → Bool
is_label (Label name) = true
is_label (Do act) = false

-- a block begins after the end of one, and at a label that follows a statement
abbrev pub begins_between : BodyItem → BodyItem → Bool
begins_between item next = ends_block item || (is_label next && not (is_label item))

-- the item joins the first block
abbrev pub joined : BodyItem → List (List BodyItem) → List (List BodyItem)
joined item [] = (item ∷ []) ∷ []
joined item (block ∷ blocks) = (item ∷ block) ∷ blocks

-- the items, cut into blocks in the order of the text
abbrev pub blocks_of : List BodyItem → List (List BodyItem)
blocks_of [] = []
blocks_of (item ∷ []) = (item ∷ []) ∷ []
blocks_of (item ∷ next ∷ items) =
    if begins_between item next then (item ∷ []) ∷ blocks_of (next ∷ items) else joined item (blocks_of (next ∷ items))
