-- Items that are cut into blocks, and their labels.
--   from_of blocks b    the items from block b on
--   Trim block          no block begins inside
--   from_blocks         together the blocks are the items
--   all_trim            no block begins inside one
--   label_leads         a label that stands leads to the block of its number
use Rattle.std.proofs.Common.{◌≡◌, ℕ, zero, suc, ◌+◌, add-one, List, [], ◌∷◌, ◌++◌, Option, Some, None, is_some, unwrap_or, Bool, true, false, refl, sym, ap, ◌∙◌, subst}
use Rattle.std.specs.Prelude.{◌||◌, not, if◌then◌else◌}
use Rattle.std.specs.Option.{option_map}
use Rattle.std.proofs.lemmas.Bool.{false≢true}
use Rattle.alf_ops.specs.declared.history.FrameShape.{FrameShape}
use Rattle.alf_program.specs.Tree.{BodyItem, Label, Do}
use Rattle.alf_faults.specs.Places.{place_of, is_label_named}
use Rattle.alf_check.specs.Blocks.{ends_block, is_label, begins_between, joined, blocks_of}
use Rattle.alf_check.specs.Numbers.{Numbers, has_label, block_number}
use Rattle.item_runs.specs.Stretches.{items_after}
use Rattle.item_runs.specs.Cuts.{IsSame}

-- the items from block b on
abbrev pub from_of : List (List BodyItem) → ℕ → List BodyItem
from_of [] b = []
from_of (block ∷ blocks) zero = block ++ from_of blocks zero
from_of (block ∷ blocks) (suc b) = from_of blocks b

-- no block begins inside
abbrev pub Trim : List BodyItem → Type 0
Trim [] = Unit {0}
Trim (i ∷ []) = Unit {0}
Trim (i ∷ j ∷ items) = (begins_between i j ≡ false) × Trim (j ∷ items)

abbrev pub AllTrim : List (List BodyItem) → Type 0
AllTrim [] = Unit {0}
AllTrim (block ∷ blocks) = Trim block × AllTrim blocks

-- ---- cutting

-- the first block begins with the item
abbrev Begins : BodyItem → List (List BodyItem) → Type 0
Begins i [] = ⊥
Begins i ([] ∷ blocks) = ⊥
Begins i ((j ∷ block) ∷ blocks) = j ≡ i

joined_begins : (i : BodyItem) (blocks : List (List BodyItem)) → Begins i (joined i blocks)
joined_begins i [] = refl
joined_begins i (block ∷ blocks) = refl

choice_begins : (i : BodyItem) (v : Bool) (blocks : List (List BodyItem))
    → Begins i (if v then (i ∷ []) ∷ blocks else joined i blocks)
choice_begins i true blocks = refl
choice_begins i false blocks = joined_begins i blocks

begins : (i : BodyItem) (items : List BodyItem) → Begins i (blocks_of (i ∷ items))
begins i [] = refl
begins i (j ∷ items) = choice_begins i (begins_between i j) (blocks_of (j ∷ items))

joined_trim : (i j : BodyItem) (blocks : List (List BodyItem)) → begins_between i j ≡ false → Begins j blocks
    → AllTrim blocks → AllTrim (joined i blocks)
joined_trim i j [] e b t = absurd b
joined_trim i j ([] ∷ blocks) e b t = absurd b
joined_trim i j ((k ∷ block) ∷ blocks) e b t = ((subst (λ (q : BodyItem). begins_between i q ≡ false) (sym b) e, t.0), t.1)

choice_trim : (i j : BodyItem) (v : Bool) (blocks : List (List BodyItem)) → begins_between i j ≡ v → Begins j blocks
    → AllTrim blocks → AllTrim (if v then (i ∷ []) ∷ blocks else joined i blocks)
choice_trim i j true blocks e b t = (tt, t)
choice_trim i j false blocks e b t = joined_trim i j blocks e b t

-- no block begins inside one
pub all_trim : (items : List BodyItem) → AllTrim (blocks_of items)
all_trim [] = tt
all_trim (i ∷ []) = (tt, tt)
all_trim (i ∷ j ∷ items) = choice_trim i j (begins_between i j) (blocks_of (j ∷ items)) refl (begins j items) (all_trim (j ∷ items))

choice_from : (i : BodyItem) (v : Bool) (blocks : List (List BodyItem))
    → from_of (if v then (i ∷ []) ∷ blocks else joined i blocks) 0 ≡ i ∷ from_of blocks 0
choice_from i true blocks = refl
choice_from i false [] = refl
choice_from i false (block ∷ blocks) = refl

-- together the blocks are the items
pub from_blocks : (items : List BodyItem) → from_of (blocks_of items) 0 ≡ items
from_blocks [] = refl
from_blocks (i ∷ []) = refl
from_blocks (i ∷ j ∷ items) = choice_from i (begins_between i j) (blocks_of (j ∷ items)) ∙ ap (λ (x : List BodyItem). i ∷ x) (from_blocks (j ∷ items))

-- ---- labels

-- the label stands among the items
abbrev holds : List ℕ → List BodyItem → Bool
holds label [] = false
holds label (item ∷ items) = if is_label_named label item then true else holds label items

some_on : (o : Option ℕ) → is_some (option_map (λ place. place + 1) o) ≡ is_some o
some_on None = refl
some_on (Some n) = refl

choice_some : (v : Bool) (o : Option ℕ)
    → is_some (if v then Some 0 else option_map (λ place. place + 1) o) ≡ (if v then true else is_some o)
choice_some true o = refl
choice_some false o = some_on o

holds_is : (label : List ℕ) (items : List BodyItem) → has_label label items ≡ holds label items
holds_is label [] = refl
holds_is label (item ∷ items) =
    choice_some (is_label_named label item) (place_of (is_label_named label) items) ∙ ap (λ (v : Bool). if is_label_named label item then true else v) (holds_is label items)

or_true : (a b : Bool) → b ≡ true → (a || b) ≡ true
or_true true b e = refl
or_true false b e = e

-- no label stands after a statement of a block
no_label : (label : List ℕ) (i : BodyItem) (items : List BodyItem) → is_label i ≡ false → Trim (i ∷ items)
    → holds label items ≡ false
no_label label i [] e t = refl
no_label label i (Label n ∷ items) e t = absurd (false≢true (sym t.0 ∙ or_true (ends_block i) (not (is_label i)) (ap not e)))
no_label label i (Do act ∷ items) e t = no_label label (Do act) items refl t.1

trim_tail : (i : BodyItem) (items : List BodyItem) → Trim (i ∷ items) → Trim items
trim_tail i [] t = tt
trim_tail i (j ∷ items) t = t.1

after_other : (label : List ℕ) (block rest : List BodyItem) → holds label block ≡ false
    → items_after label (block ++ rest) ≡ items_after label rest
after_other label [] rest e = refl
after_other label (item ∷ block) rest e = on (is_label_named label item) (λ h. after_other label block rest h) e where
  on : (v : Bool) → (holds label block ≡ false → items_after label (block ++ rest) ≡ items_after label rest)
      → (if v then true else holds label block) ≡ false
      → (if v then block ++ rest else items_after label (block ++ rest)) ≡ items_after label rest
  on true go e = absurd (false≢true (sym e))
  on false go e = go e

holds_joined : (label : List ℕ) (block rest : List BodyItem) → holds label block ≡ false
    → holds label (block ++ rest) ≡ holds label rest
holds_joined label [] rest e = refl
holds_joined label (item ∷ block) rest e = on (is_label_named label item) (λ h. holds_joined label block rest h) e where
  on : (v : Bool) → (holds label block ≡ false → holds label (block ++ rest) ≡ holds label rest)
      → (if v then true else holds label block) ≡ false
      → (if v then true else holds label (block ++ rest)) ≡ holds label rest
  on true go e = absurd (false≢true (sym e))
  on false go e = go e

-- a label that stands among the items of blocks stands in one of them
record StandsIn (label : List ℕ) (blocks : List (List BodyItem)) : Type 0 where
  number : ℕ
  at : place_of (has_label label) blocks ≡ Some number

-- the place of the first of more blocks that passes, by whether the first does
abbrev place_by : Option ℕ → Bool → Option ℕ
place_by further v = if v then Some 0 else option_map (λ place. place + 1) further

stands_in : (label : List ℕ) (blocks : List (List BodyItem)) → holds label (from_of blocks 0) ≡ true
    → StandsIn label blocks
stands_in label [] e = absurd (false≢true e)
stands_in label (block ∷ blocks) e = on (has_label label block) refl (λ h. stands_in label blocks h) where
  on : (v : Bool) → has_label label block ≡ v → (holds label (from_of blocks 0) ≡ true → StandsIn label blocks)
      → StandsIn label (block ∷ blocks)
  on true h go = record { number = 0; at = ap (place_by (place_of (has_label label) blocks)) h }
  on false h go =
      let further = go (sym (holds_joined label block (from_of blocks 0) (sym (holds_is label block) ∙ h)) ∙ e) in
      record { number = further.number + 1; at = ap (place_by (place_of (has_label label) blocks)) h ∙ ap (option_map (λ place. place + 1)) further.at }

-- the place of a label that stands further on
further_on : (o : Option ℕ) (n : ℕ) → option_map (λ place. place + 1) o ≡ Some n → (m : ℕ) × (o ≡ Some m) × (n ≡ suc m)
further_on None n e = absurd (cc)
further_on (Some m) n e = (m, refl, let same : m + 1 ≡ n = cc in sym same ∙ add-one m)

module _ (frames : List FrameShape) (numbers : Numbers) where
  -- a label that a block holds leads to the block's start
  after_held : (label : List ℕ) (block rest : List BodyItem) → Trim block → holds label block ≡ true
      → IsSame frames numbers (items_after label (block ++ rest)) (block ++ rest)
  after_held label [] rest t e = absurd (false≢true e)
  after_held label (Label n ∷ block) rest t e = on (is_label_named label (Label n)) (λ h. after_held label block rest (trim_tail (Label n) block t) h) e where
    on : (v : Bool)
        → (holds label block ≡ true → IsSame frames numbers (items_after label (block ++ rest)) (block ++ rest))
        → (if v then true else holds label block) ≡ true
        → IsSame frames numbers (if v then block ++ rest else items_after label (block ++ rest)) (block ++ rest)
    on true go e = λ history. refl
    on false go e = go e
  after_held label (Do act ∷ block) rest t e = absurd (false≢true (sym (no_label label (Do act) block refl t) ∙ e))

  -- each label leads to the start of its block
  labels_lead : (label : List ℕ) (blocks : List (List BodyItem)) (n : ℕ) → AllTrim blocks
      → place_of (has_label label) blocks ≡ Some n
      → IsSame frames numbers (items_after label (from_of blocks 0)) (from_of blocks n)
  labels_lead label [] n t at = absurd (cc)
  labels_lead label (block ∷ blocks) n t at = on (has_label label block) refl at (λ m h. labels_lead label blocks m t.1 h) where
    on : (v : Bool) → has_label label block ≡ v
        → (if v then Some 0 else option_map (λ place. place + 1) (place_of (has_label label) blocks)) ≡ Some n
        → ((m : ℕ) → place_of (has_label label) blocks ≡ Some m → IsSame frames numbers (items_after label (from_of blocks 0)) (from_of blocks m))
        → IsSame frames numbers (items_after label (block ++ from_of blocks 0)) (from_of (block ∷ blocks) n)
    on true h at go =
        let e : 0 ≡ n = cc in
        subst (λ (k : ℕ). IsSame frames numbers (items_after label (block ++ from_of blocks 0)) (from_of (block ∷ blocks) k)) e
        (after_held label block (from_of blocks 0) t.0 (sym (holds_is label block) ∙ h))
    on false h at go =
        let found = further_on (place_of (has_label label) blocks) n at in
        let e = after_other label block (from_of blocks 0) (sym (holds_is label block) ∙ h) in
        subst (λ (k : ℕ). IsSame frames numbers (items_after label (block ++ from_of blocks 0)) (from_of (block ∷ blocks) k)) (sym found.2)
        (subst (λ (items : List BodyItem). IsSame frames numbers items (from_of blocks found.0)) (sym e) (go found.0 found.1))

  -- a label that stands leads to the block of its number
  pub label_leads : (items : List BodyItem) (label : List ℕ) → has_label label items ≡ true
      → IsSame frames numbers (items_after label items) (from_of (blocks_of items) (block_number items label))
  label_leads items label stands =
      let blocks = blocks_of items in
      let found = stands_in label blocks (ap (holds label) (from_blocks items) ∙ sym (holds_is label items) ∙ stands) in
      let number : block_number items label ≡ found.number = ap (λ (o : Option ℕ). unwrap_or o 0) found.at in
      subst (λ (n : ℕ). IsSame frames numbers (items_after label items) (from_of blocks n)) (sym number)
      (subst (λ (all : List BodyItem). IsSame frames numbers (items_after label all) (from_of blocks found.number)) (from_blocks items) (labels_lead label blocks found.number (all_trim items) found.at))
