-- Tables of names.
--   found table name              what the table has under the name
--   IsTableOf words names table   the table has each name, under it the number of the first function of the name
use Rattle.std.specs.Prelude.{◌≡◌, ℕ, List, Option}
use Rattle.std.specs.Str.{bytes_eq}
use Rattle.indexmap.specs.IndexMap.{IndexMap, get_by}
use denote.Ref.{Bor}
use Rattle.c_unit.specs.Units.{Word}
use Rattle.c_scopes.specs.Numbers.{number_named}

-- what the table has under the name
abbrev pub found : {S : Type 0} → IndexMap (Bor (List ℕ)) ℕ S → List ℕ → Option ℕ
found table name = get_by (λ key. bytes_eq name key.now) table

-- the table has each name, under it the number of the first function of the name
abbrev pub IsTableOf : {S : Type 0} → List Word → List ℕ → IndexMap (Bor (List ℕ)) ℕ S → Type 0
IsTableOf words names table = (name : List ℕ) → found table name ≡ number_named words names name
