-- What a values file means: the numbers of one run, one for each row of inputs.
--   numbers_of data            the whole numbers, if all are; numbers_in datum   those of an array
--   told_values members        those at the top, if only `values` stands there, with an array of whole numbers
--   MeansValues bytes n numbers     the file has these n numbers
--   RefusesValues bytes n fault     the file is refused for this fault: it is no document, or has a key fault at the top, as another count is
use Rattle.std.specs.Prelude.{◌≡◌, ◌≢◌, ℕ, ℤ, Bool, List, [], ◌∷◌, length, Option, Some, None, codes, if◌then◌else◌}
use Rattle.std.specs.Option.{option_and_then, option_map}
use Rattle.std.specs.Str.{bytes_eq}
use Rattle.toml.specs.Data.{Data, Members, get_member, as_integer, as_array}
use Rattle.cost_table.specs.declared.fault.TableFault.{TableFault}
use Rattle.cost_table.specs.declared.fault.TableFault.TheVariants as faults
use Rattle.cost_table.specs.Documents.{IsDocument, only_keys, list_of}

-- one number before others
abbrev pub and_number : Option ℤ → Option (List ℤ) → Option (List ℤ)
and_number None rest = None
and_number (Some number) rest = option_map (λ numbers. number ∷ numbers) rest

-- the whole numbers, if all are
abbrev pub numbers_of : List Data → Option (List ℤ)
numbers_of [] = Some []
numbers_of (datum ∷ more) = and_number (as_integer datum) (numbers_of more)

-- those of an array
abbrev pub numbers_in : Data → Option (List ℤ)
numbers_in datum = option_and_then (λ items. numbers_of (list_of items)) (as_array datum)

-- the key at the top
abbrev pub is_value_top : List ℕ → Bool
is_value_top key = bytes_eq key (codes "values")

-- the numbers, if only `values` stands at the top, with an array of whole numbers
abbrev pub told_values : Members → Option (List ℤ)
told_values ms = if only_keys is_value_top ms then option_and_then numbers_in (get_member (codes "values") ms) else None

-- the file has these n numbers
pub record MeansValues (bytes : List ℕ) (n : ℕ) (numbers : List ℤ) : Type 0 where
  pub members : Members
  pub document : IsDocument bytes members
  pub told : told_values members ≡ Some numbers
  pub count : length numbers ≡ n

-- the document has no numbers, or another count of them
pub data IsWrongValues (n : ℕ) : Option (List ℤ) → Type 0 where
  NoValues : IsWrongValues n None
  OtherCount : (numbers : List ℤ) → length numbers ≢ n → IsWrongValues n (Some numbers)

-- the document has no numbers at its top, or another count of them
pub record HasWrongValues (bytes : List ℕ) (n : ℕ) : Type 0 where
  pub members : Members
  pub document : IsDocument bytes members
  pub wrong : IsWrongValues n (told_values members)

-- the file is refused for this fault
pub data RefusesValues (bytes : List ℕ) (n : ℕ) : TableFault → Type 0 where
  NoDocument : ((members : Members) → ¬ IsDocument bytes members) → RefusesValues bytes n faults.Toml
  WrongTop : HasWrongValues bytes n → RefusesValues bytes n (faults.Key None)
