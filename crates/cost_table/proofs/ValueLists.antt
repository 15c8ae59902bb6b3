-- The whole numbers of an array, one by one.
--   numbers_told      the numbers of an array's values
use Rattle.std.proofs.Common.{◌≡◌, ℤ, List, [], ◌++◌, map, Option, Some, refl}
use Rattle.std.specs.Option.{option_map}
use Rattle.toml.specs.Data.{Data, as_array}
use Rattle.toml.specs.declared.value.Value.{Value}
use Rattle.toml.specs.View.{view, items_view}
use Rattle.cost_table.specs.RunValues.{numbers_of, numbers_in}
use Rattle.cost_table.proofs.Seen.{list_of_view}

-- numbers before those that are left
abbrev pub before_all : List ℤ → Option (List ℤ) → Option (List ℤ)
before_all made left = option_map (λ more. made ++ more) left

-- the numbers of an array's values
pub numbers_told : (datum : Data) (vs : List Value) → as_array datum ≡ Some (items_view vs)
    → numbers_in datum ≡ numbers_of (map view vs)
numbers_told datum vs e = rw (e, list_of_view vs) refl
