-- Names in a row, newest first, and the table over them.
--   Row                      the words of a unit, and names in a row
--   latest words es name     the place of the newest entry of this name, counted from the oldest one
--   newest helds             the names that are held, newest first
--   found table name         what the table has under the name
--   Hides words helds        each name hides the newest one before it that is the same
--   IsRow words helds table  the table has each name, under it the place of its newest entry
use Rattle.std.specs.Prelude.{◌≡◌, ℕ, List, [], ◌∷◌, map, reverse, length, ⊤, Option, Some, None, if◌then◌else◌}
use Rattle.std.specs.Str.{bytes_eq}
use Rattle.indexmap.specs.IndexMap.{IndexMap, get_by}
use denote.Ref.{Bor}
use Rattle.c_unit.specs.Units.{Word}
use Rattle.c_rules.specs.Names.{Entry, text_at}
use Rattle.c_scopes.specs.declared.row.Held.{Held}
use Rattle.c_scopes.specs.Views.{entry_of}

pub record Row : Type 0 where
  pub words : List Word
  pub names : List Entry

-- the place of the newest entry of this name, counted from the oldest one
abbrev pub latest : List Word → List Entry → List ℕ → Option ℕ
latest words [] name = None
latest words (e ∷ es) name = if bytes_eq (text_at words e.token) name then Some (length es) else latest words es name

abbrev pub held_entry : Held → Entry
held_entry held = entry_of held.entry

-- the names that are held, newest first
abbrev pub newest : List Held → List Entry
newest helds = map held_entry (reverse helds)

-- what the table has under the name
abbrev pub found : {S : Type 0} → IndexMap (Bor (List ℕ)) ℕ S → List ℕ → Option ℕ
found table name = get_by (λ key. bytes_eq name key.now) table

-- each name hides the newest one before it that is the same
abbrev pub Hides : List Word → List Held → Type 0
Hides words [] = ⊤
Hides words (h ∷ hs) = (h.hidden ≡ latest words (map held_entry hs) (text_at words h.entry.token)) × Hides words hs

-- the table has each name, under it the place of its newest entry
pub record IsRow {S : Type 0} (words : List Word) (helds : List Held)
    (table : IndexMap (Bor (List ℕ)) ℕ S) : Type 0 where
  pub has : (name : List ℕ) → found table name ≡ latest words (newest helds) name
  pub hides : Hides words (reverse helds)
