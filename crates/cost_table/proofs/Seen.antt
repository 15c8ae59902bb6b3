-- What the code's tables are seen as.
--   only_keys_all      the keys of a table, one by one
--   list_of_view       the values of an array, one by one
--   tables_all         whether each is a table, one by one
--   seen_at            the value at a place
--   told_tables        the members of an array of tables
use Rattle.std.proofs.Common.{◌≡◌, ℕ, Bool, ◌&&◌, List, [], ◌∷◌, map, String, Global, Some, None, slice_get, string_bytes, refl, ap, ◌∙◌}
use Rattle.std.specs.Option.{option_map}
use Rattle.std.proofs.lemmas.Option.{slice_get-map}
use Rattle.std.specs.Prelude.{if◌then◌else◌}
use Rattle.std.specs.Map.{keys_of}
use Rattle.std.specs.List.{list_all}
use Rattle.toml.specs.Data.{Data, as_array}
use Rattle.toml.specs.declared.value.Value.{Value}
use Rattle.toml.specs.View.{view, members_view, items_view}
use Rattle.cost_table.specs.Documents.{only_keys, list_of, is_table, tables_of}

-- each key of a table passes if each key of its entries does
pub only_keys_all : (known : List ℕ → Bool) (es : List (String Global × Value))
    → only_keys known (members_view es) ≡ list_all (λ (key : String Global). known (string_bytes key)) (keys_of es)
only_keys_all known [] = refl
only_keys_all known (e ∷ es) = ap (λ b. known (string_bytes e.0) && b) (only_keys_all known es)

-- an array's items as a list
pub list_of_view : (vs : List Value) → list_of (items_view vs) ≡ map view vs
list_of_view [] = refl
list_of_view (v ∷ vs) = ap (λ ds. view v ∷ ds) (list_of_view vs)

-- each is a table if each value is
pub tables_all : (vs : List Value) → list_all is_table (map view vs) ≡ list_all (λ v. is_table (view v)) vs
tables_all [] = refl
tables_all (v ∷ vs) = ap (λ b. is_table (view v) && b) (tables_all vs)

-- the members of an array of tables
pub told_tables : (datum : Data) (vs : List Value) (b : Bool) → as_array datum ≡ Some (items_view vs)
    → b ≡ list_all (λ v. is_table (view v)) vs → tables_of datum ≡ (if b then Some (map view vs) else None)
told_tables datum vs b e t = rw (e, list_of_view vs, tables_all vs, ← t) refl

-- the value at a place
pub seen_at : (vs : List Value) (i : ℕ) (v : Value) → slice_get vs i ≡ Some v
    → slice_get (map view vs) i ≡ Some (view v)
seen_at vs i v at = slice_get-map view vs i ∙ ap (option_map view) at
