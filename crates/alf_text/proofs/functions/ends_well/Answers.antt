use Rattle.std.proofs.Common.{◌≡◌, suc, ◌-◌, List, [], ◌∷◌, length, map, Some, refl, ◌∙◌, arith}
use Rattle.std.specs.List.{slice_get}
use Rattle.alf_program.specs.declared.program.Item.{Item}
use Rattle.alf_program.specs.Tree.{item_of}
use Rattle.alf_program.specs.Writable.{ends_well, is_ending}
use Rattle.alf_text.proofs.functions.ends_well.Goals as goal

last_item : (xs : List Item) (i : Item) → Some i ≡ slice_get xs (length xs - 1)
    → is_ending (item_of i) ≡ ends_well (map item_of xs)
last_item [] i h = absurd cc
last_item (x ∷ []) i h = let e : i ≡ x = cc in rw e refl
last_item (x ∷ y ∷ xs) i h =
    let k : length (x ∷ y ∷ xs) - 1 ≡ suc (length (y ∷ xs) - 1) = omega arith in
    last_item (y ∷ xs) i (rw k at h)

pub returns-in-Some : goal.returns-in-Some
returns-in-Some c = c.is_ending.ensures ∙ last_item c.args.items.now c.in-Some.item.now c.in-Some.ensures.value
