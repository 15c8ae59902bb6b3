-- Items cut into blocks.
--   Agree n numbers place block   the number at the place of an item is that of the block, where the first block has number n
use Rattle.std.proofs.Common.{map, append-nil, ◌≡◌, ◌≤◌, ◌<◌, ◌+◌, ◌-◌, ℕ, zero, suc, Bool, true, false, List, [], ◌∷◌, ◌++◌, flat_map, length, take, drop, get_or, slice_get, All, Contains, add-zero, add-one, zero-add, Option, Some, None, is_some, unwrap_or, option_map, refl, ap, sym, ◌∙◌, subst, arith, if◌then◌else◌}
use Rattle.std.proofs.Math.Numerals.{sub-one}
use Rattle.std.proofs.lemmas.Bool.{false≢true, both_ways}
use Rattle.std.proofs.lemmas.List.{length-map}
use Rattle.std.proofs.lemmas.Option.{none-some, same_Some, slice_get_within, slice_get-get_or}
use Rattle.std.proofs.lemmas.List.Elements.{All-nil, All-cons, All-head, All-tail, All-contains}
use Rattle.lists.specs.MemberLaws.{contained}
use Rattle.lists.specs.ImageLaws.{joined, from_joined}
use Rattle.lists.specs.TestLaws.{by_test}
use Rattle.alf_program.specs.declared.program.Item.{Item}
use Rattle.alf_program.specs.Tree.{BodyItem, Label, item_of}
use Rattle.alf_program.specs.Writable.{is_ending, ends_well}
use Rattle.alf_faults.specs.Places.{place_of, label_place, is_label_named}
use Rattle.alf_faults.specs.PlaceLaws.{counted}
use Rattle.alf_check.specs.Blocks.{begins_between, blocks_of}
use Rattle.alf_check.specs.Blocks as blocks
use Rattle.alf_check.specs.Numbers.{has_label, block_number}
use Rattle.alf_check.specs.Cut.{begins_after, first_length, numbers_along}
use Rattle.alf_check.proofs.Places.{by_option, its_name, first_place, stands}

-- ---- what the blocks have

abbrev pub all_of : List (List BodyItem) → List BodyItem
all_of parts = flat_map (λ part. part) parts

abbrev HasItem : List BodyItem → Type 0
HasItem part = 0 < length part

-- the parts have the items in their order, and at least one each
pub record AreCut (items : List BodyItem) (parts : List (List BodyItem)) : Type 0 where
  pub all : all_of parts ≡ items
  pub some : All HasItem parts

pub cut : (items : List BodyItem) → AreCut items (blocks_of items)
cut [] = record { all = refl; some = All-nil HasItem }
cut (item ∷ []) = record { all = refl; some = All-cons HasItem (item ∷ []) [] (omega arith) (All-nil HasItem) }
cut (item ∷ next ∷ items) =
    by_test (begins_between item next) (λ e. rw e (alone (blocks_of (next ∷ items)) (cut (next ∷ items)))) (λ e. rw e (front (blocks_of (next ∷ items)) (cut (next ∷ items))))
  where
    alone : (parts : List (List BodyItem)) → AreCut (next ∷ items) parts
        → AreCut (item ∷ next ∷ items) ((item ∷ []) ∷ parts)
    alone parts h = record { all = ap (λ (x : List BodyItem). item ∷ x) h.all; some = All-cons HasItem (item ∷ []) parts (omega arith) h.some }

    front : (parts : List (List BodyItem)) → AreCut (next ∷ items) parts
        → AreCut (item ∷ next ∷ items) (blocks.joined item parts)
    front [] h = alone [] h
    front (part ∷ parts) h = record { all = ap (λ (x : List BodyItem). item ∷ x) h.all; some = All-cons HasItem (item ∷ part) parts (omega arith) (All-tail HasItem part parts h.some) }

-- what a block has is an item
pub in_items : (items part : List BodyItem) → Contains (blocks_of items) part → (item : BodyItem) → Contains part item
    → Contains items item
in_items items part c item d = subst (λ (xs : List BodyItem). Contains xs item) (cut items).all (joined (λ x. x) (blocks_of items) part item c d)

-- the block of a label that stands
pub block_within : (items : List BodyItem) (label : List ℕ) → Contains items (Label label)
    → block_number items label < length (blocks_of items)
block_within items label among =
    let part = from_joined (λ x. x) (blocks_of items) (Label label) (subst (λ (xs : List BodyItem). Contains xs (Label label)) (sym (cut items).all) among) in
    let number = first_place (has_label label) (blocks_of items) part.0 part.1 (ap is_some (first_place (is_label_named label) part.0 (Label label) part.2 (its_name label label refl)).1) in
    let there = stands (has_label label) (blocks_of items) number.0 number.1 in
    omega (arith, slice_get_within (blocks_of items) number.0 there.member there.at, ap (λ (o : Option ℕ). unwrap_or o 0) number.1)

-- ---- the first block

-- it has the items up to its length
pub first_cut : (items : List BodyItem) → 0 < length items
    → blocks_of items ≡ take (first_length items) items ∷ blocks_of (drop (first_length items) items)
first_cut [] some = absurd (omega arith)
first_cut (item ∷ []) some = refl
first_cut (item ∷ next ∷ items) some =
    by_test (begins_between item next) (λ e. rw e refl) (λ e. rw e (ap (λ (x : List (List BodyItem)). blocks.joined item x) (first_cut (next ∷ items) (omega arith))))

-- one at least, and at most all
pub first_within : (items : List BodyItem) → 0 < length items
    → (0 < first_length items) × (first_length items ≤ length items)
first_within [] some = absurd (omega arith)
first_within (item ∷ []) some = omega arith
first_within (item ∷ next ∷ items) some =
    let more = first_within (next ∷ items) (omega arith) in by_test (begins_between item next) (λ e. rw e (omega arith)) (λ e. rw e (omega arith))

pub split_within : (items : List Item) (n : ℕ) → n ≡ first_length (map item_of items)
    → (n ≤ length items) × (0 < length items → 0 < n)
split_within [] n is = omega arith
split_within (item ∷ items) n is = omega (arith, length-map items item_of, first_within (map item_of (item ∷ items)) (omega arith))

-- where an item is an ending, there is a block
pub some_block : (items : List BodyItem) → ends_well items ≡ true → 0 < length (blocks_of items)
some_block [] well = absurd (false≢true well)
some_block (item ∷ items) well = omega (arith, ap length (first_cut (item ∷ items) (omega arith)))

-- ---- the last item of a block

pub last_of : (items : List BodyItem) (b : ℕ) (part : List BodyItem) → slice_get (blocks_of items) b ≡ Some part
    → (last : BodyItem) × (slice_get part (length part - 1) ≡ Some last)
last_of items b part at =
    let some : 0 < length part = All-contains HasItem (blocks_of items) part ((cut items).some) (contained (blocks_of items) b part at) in
    (get_or part (length part - 1) (Label []), slice_get-get_or part (length part - 1) (Label []) (omega arith))

well_last : (items : List BodyItem) (last : BodyItem) → slice_get items (length items - 1) ≡ Some last
    → ends_well items ≡ is_ending last
well_last [] last at = absurd (none-some last at)
well_last (item ∷ []) last at = ap is_ending (same_Some item last at)
well_last (item ∷ next ∷ items) last at = well_last (next ∷ items) last (rw sub-one (rw sub-one at at))

well_after : (part : List BodyItem) (item : BodyItem) (items : List BodyItem)
    → ends_well (part ++ item ∷ items) ≡ ends_well (item ∷ items)
well_after [] item items = refl
well_after (first ∷ []) item items = refl
well_after (first ∷ next ∷ part) item items = well_after (next ∷ part) item items

-- a block whose last item is no jump, switch or return is not the last
pub goes_on : (items : List BodyItem) → ends_well items ≡ true → (b : ℕ) (part : List BodyItem) (last : BodyItem)
    → slice_get (blocks_of items) b ≡ Some part → slice_get part (length part - 1) ≡ Some last → is_ending last ≡ false
    → suc b < length (blocks_of items)
goes_on items well b part last at is other = by_blocks (blocks_of items) ((cut items).some) (ap ends_well (cut items).all ∙ well) b at
  where
    by_blocks : (parts : List (List BodyItem)) → All HasItem parts → ends_well (all_of parts) ≡ true → (b : ℕ)
        → slice_get parts b ≡ Some part → suc b < length parts
    by_blocks [] some well b at = absurd (none-some part at)
    by_blocks (front ∷ []) some well zero at =
        let same = same_Some front part at in
        absurd (both_ways (is_ending last) other (sym (well_last part last is) ∙ ap ends_well (sym same) ∙ ap ends_well (sym (append-nil front)) ∙ well))
    by_blocks (front ∷ []) some well (suc b) at = absurd (none-some part at)
    by_blocks (front ∷ [] ∷ parts) some well b at = absurd (let none : 0 < 0 = All-head HasItem [] parts (All-tail HasItem front ([] ∷ parts) some) in omega arith)
    by_blocks (front ∷ (item ∷ next) ∷ parts) some well zero at = omega arith
    by_blocks (front ∷ (item ∷ next) ∷ parts) some well (suc b) at =
        let more = by_blocks ((item ∷ next) ∷ parts) (All-tail HasItem front ((item ∷ next) ∷ parts) some) (sym (well_after front item (next ++ all_of parts)) ∙ well) b at in omega arith

-- ---- the block of a label, by the numbers along the items

length_along : (n : ℕ) (items : List BodyItem) → length (numbers_along n items) ≡ length items
length_along n [] = refl
length_along n (item ∷ items) = ap suc (length_along (if begins_after item items then suc n else n) items)

-- a place of an item has a number
pub along_low : (numbers : List ℕ) (items : List Item) (place : ℕ) → numbers ≡ numbers_along 0 (map item_of items)
    → place < length items → place < length numbers
along_low numbers items place is low = omega (arith, ap length is ∙ length_along 0 (map item_of items) ∙ length-map items item_of)

-- what is said of the place of a label in items and in blocks, where the first have these numbers
abbrev Agree : ℕ → List ℕ → Option ℕ → Option ℕ → Type 0
Agree n numbers place block = option_map (λ k. get_or numbers k 0) place ≡ option_map (λ k. k + n) block

module _ (label : List ℕ) (item : BodyItem) (n : ℕ) where
  -- where the item in front is the label, it stands in the first block
  label_first : (begins : Bool) (parts : List (List BodyItem)) → is_label_named label item ≡ true
      → Some n ≡ option_map (λ k. k + n) (place_of (has_label label) (if begins then (item ∷ []) ∷ parts else blocks.joined item parts))
  label_first true parts e = rw e (ap Some (sym (zero-add n)))
  label_first false [] e = rw e (ap Some (sym (zero-add n)))
  label_first false (part ∷ parts) e = rw e (ap Some (sym (zero-add n)))

  -- else it is looked for after it
  label_after : (begins : Bool) (parts : List (List BodyItem)) (found : Option ℕ) → is_label_named label item ≡ false
      → found ≡ option_map (λ k. k + (if begins then suc n else n)) (place_of (has_label label) parts)
      → found ≡ option_map (λ k. k + n) (place_of (has_label label) (if begins then (item ∷ []) ∷ parts else blocks.joined item parts))
  label_after true parts found e h = rw e (h ∙ sym (counted n (place_of (has_label label) parts)))
  label_after false [] found e h = rw e h
  label_after false (part ∷ parts) found e h = rw (e, by_option (λ o. is_some (option_map (λ k. k + 1) o) ≡ is_some o) (label_place part label) (λ none. refl) (λ k some. refl)) h

block_along : (items : List BodyItem) (n : ℕ) (label : List ℕ)
    → Agree n (numbers_along n items) (label_place items label) (place_of (has_label label) (blocks_of items))
block_along [] n label = refl
block_along (item ∷ []) n label = by_test (is_label_named label item) (λ e. rw e (ap Some (sym (zero-add n)))) (λ e. rw e refl)
block_along (item ∷ next ∷ items) n label =
    let begins = begins_between item next in
    let m = if begins then suc n else n in
    let parts = blocks_of (next ∷ items) in
    let numbers = numbers_along m (next ∷ items) in
    by_test (is_label_named label item) (λ e. rw e (label_first label item n begins parts e))
    (λ e. rw e (by_option (λ o. option_map (λ k. get_or (n ∷ numbers) k 0) (option_map (λ k. k + 1) o) ≡ option_map (λ k. get_or numbers k 0) o) (label_place (next ∷ items) label) (λ none. refl) (λ k some. ap Some (rw add-one refl))
    ∙ label_after label item n begins parts _ e (block_along (next ∷ items) m label)))

-- the number at the place of a label is that of its block, and 0 where it does not stand
number_at : (items : List BodyItem) (label : List ℕ) (place : Option ℕ) → place ≡ label_place items label
    → unwrap_or (option_map (λ k. get_or (numbers_along 0 items) k 0) place) 0 ≡ block_number items label
number_at items label place is =
    ap (λ (x : Option ℕ). unwrap_or x 0) (ap (option_map (λ k. get_or (numbers_along 0 items) k 0)) is ∙ block_along items 0 label
    ∙ by_option (λ o. option_map (λ k. k + 0) o ≡ o) (place_of (has_label label) (blocks_of items)) (λ none. refl) (λ k some. ap Some (add-zero k)))

pub block_at : (items : List BodyItem) (label : List ℕ) (place : ℕ) → Some place ≡ label_place items label
    → block_number items label ≡ get_or (numbers_along 0 items) place 0
block_at items label place is = sym (number_at items label (Some place) is)

pub block_none : (items : List BodyItem) (label : List ℕ) → None ≡ label_place items label
    → block_number items label ≡ 0
block_none items label is = sym (number_at items label None is)
