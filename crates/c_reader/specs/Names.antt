-- The functions that are declared.
--   known_of known          a declaration: its name, and whether the function gives a value
--   found table name        what the table has under the name
--   said table name         what the table says of the name, where a name that it has not gives no value
--   IsTableOf names table   the table says of each name what its latest declaration says
use Rattle.std.specs.Prelude.{◌≡◌, ℕ, Bool, false, List, Option, unwrap_or}
use Rattle.std.specs.Str.{bytes_eq}
use Rattle.indexmap.specs.IndexMap.{IndexMap, get_by}
use denote.Ref.{Bor}
use Rattle.c_grammar.specs.Tokens.{gives_value}
use Rattle.c_reader.specs.declared.names.Known.{Known}

abbrev pub known_of : Known → List ℕ × Bool
known_of k = (k.name.now, k.gives)

abbrev pub found : {S : Type 0} → IndexMap (Bor (List ℕ)) Bool S → List ℕ → Option Bool
found table name = get_by (λ key. bytes_eq name key.now) table

abbrev pub said : {S : Type 0} → IndexMap (Bor (List ℕ)) Bool S → List ℕ → Bool
said table name = unwrap_or (found table name) false

abbrev pub IsTableOf : {S : Type 0} → List (List ℕ × Bool) → IndexMap (Bor (List ℕ)) Bool S → Type 0
IsTableOf names table = (name : List ℕ) → said table name ≡ gives_value name names
