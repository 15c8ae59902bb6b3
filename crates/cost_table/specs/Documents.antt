-- What stands at the keys of a TOML document and of its entries.
--   IsDocument bytes members        the bytes are UTF-8, and a document with these members
--   only_keys known members         each key passes
--   text_at key members, number_at key members   the text, the whole number at the key, if there is one
--   number_or absent key members    the same, or the given number where the key is absent
--   tables_of datum                 the members of an array of tables
--   entries_at key members          those at the key, and none where the key is absent
use Rattle.std.specs.Prelude.{◌≡◌, ℕ, ℤ, Bool, true, ◌&&◌, List, [], ◌∷◌, Option, Some, None, is_some, if◌then◌else◌, IsUtf8}
use Rattle.std.specs.Option.{option_and_then, option_map_or}
use Rattle.std.specs.List.{list_all}
use Rattle.toml.specs.Data.{Data, Items, no_items, item, Members, no_members, member, get_member, as_str, as_integer, as_array, as_table}
use Rattle.toml.specs.Parse.{parse_document}

-- the bytes are UTF-8, and a document with these members
pub record IsDocument (bytes : List ℕ) (members : Members) : Type 0 where
  pub text : IsUtf8 bytes
  pub parsed : parse_document bytes ≡ Some members

-- each key passes
abbrev pub only_keys : (List ℕ → Bool) → Members → Bool
only_keys known no_members = true
only_keys known (member key datum rest) = known key && only_keys known rest

-- the text at a key
abbrev pub text_at : List ℕ → Members → Option (List ℕ)
text_at key members = option_and_then as_str (get_member key members)

-- the whole number at a key
abbrev pub number_at : List ℕ → Members → Option ℤ
number_at key members = option_and_then as_integer (get_member key members)

-- the same, or a given number where the key is absent
abbrev pub number_or : ℤ → List ℕ → Members → Option ℤ
number_or absent key members = option_map_or as_integer (get_member key members) (Some absent)

-- the items as a list
abbrev pub list_of : Items → List Data
list_of no_items = []
list_of (item datum rest) = datum ∷ list_of rest

-- the data is a table
abbrev pub is_table : Data → Bool
is_table datum = is_some (as_table datum)

-- the items, if each is a table
abbrev pub if_tables : List Data → Option (List Data)
if_tables items = if list_all is_table items then Some items else None

-- the members of an array of tables
abbrev pub tables_of : Data → Option (List Data)
tables_of datum = option_and_then (λ items. if_tables (list_of items)) (as_array datum)

-- those at a key, and none where the key is absent
abbrev pub entries_at : List ℕ → Members → Option (List Data)
entries_at key members = option_map_or tables_of (get_member key members) (Some [])
