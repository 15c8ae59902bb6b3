-- Tables of labels.
--   found table name        what the table has under the name
--   IsTableOf items table   the table has each label of the items, under its name the place where it stands first
use Rattle.std.specs.Prelude.{◌≡◌, ℕ, List, Option}
use Rattle.std.specs.Str.{bytes_eq}
use Rattle.indexmap.specs.IndexMap.{IndexMap, get_by}
use denote.Ref.{Bor}
use Rattle.alf_program.specs.Tree.{BodyItem}
use Rattle.alf_faults.specs.Places.{label_place}

-- what the table has under the name
abbrev pub found : {S : Type 0} → IndexMap (Bor (List ℕ)) ℕ S → List ℕ → Option ℕ
found table name = get_by (λ key. bytes_eq name key.now) table

-- the table has each label of the items, under its name the place where it stands first
abbrev pub IsTableOf : {S : Type 0} → List BodyItem → IndexMap (Bor (List ℕ)) ℕ S → Type 0
IsTableOf items table = (name : List ℕ) → found table name ≡ label_place items name
