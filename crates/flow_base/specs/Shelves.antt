-- What a shelf is seen as, and what a read does to it.
--   ShelfState                            the files, the reads, their names, the faults, the last name that failed
--   names_with names name                 the names that were read, where they are told, and this one after them
--   WasRead name before after             the file of this name was read, and no read failed
--   HasFailed name before after           the read of this name failed
--   IsTooLong name limit before           where the files are told, the one of this name has more bytes than the limit
--   IsRead name limit before result after a read of this name answers so, and leaves the shelf so
--   IsWithin limit result                 the bytes are within the limit, or it is told that they are not
use Rattle.std.specs.Prelude.{◌≡◌, ◌≤◌, ◌<◌, ℕ, List, [], ◌∷◌, ◌++◌, length, Option, Some, option_map, IfSome, IsSomeAnd, Result, Ok, Err, Vec}
use Rattle.std.specs.declared.alloc.Global.{Global}
use Rattle.flow_base.specs.Outside.{Files, Rose}
use Rattle.flow_base.specs.declared.shelf.ReadError.{ReadError}
use Rattle.flow_base.specs.declared.shelf.ReadError.TheVariants.{Failed, TooLong, Memory}

pub record ShelfState : Type 0 where
  -- the files, where they are told
  pub files : Option Files
  -- how often a file was to be read, as far as a count goes
  pub reads : ℕ
  -- the names that were read, in order, where they are told; a read that found no memory is not among them
  pub names : Option (List (List ℕ))
  -- how often a read has failed, as far as a count goes
  pub faults : ℕ
  -- the name of the last read that failed
  pub failed : Option (List ℕ)

-- the names that were read, where they are told, and this one after them
abbrev pub names_with : Option (List (List ℕ)) → List ℕ → Option (List (List ℕ))
names_with names name = option_map (λ (held : List (List ℕ)). held ++ name ∷ []) names

-- the file of this name was read, and no read failed
pub record WasRead (name : List ℕ) (before after : ShelfState) : Type 0 where
  pub names : after.names ≡ names_with before.names name
  pub failed : after.failed ≡ before.failed

-- the read of this name failed
pub record HasFailed (name : List ℕ) (before after : ShelfState) : Type 0 where
  pub names : after.names ≡ names_with before.names name
  pub rose : Rose before.faults after.faults
  pub failed : after.failed ≡ Some name

-- where the files are told, there is one of this name, and it has more bytes than the limit
abbrev pub IsTooLong : List ℕ → ℕ → ShelfState → Type 0
IsTooLong name limit before = IfSome before.files (λ files. IsSomeAnd (files name) (λ bytes. limit < length bytes))

-- what a read answers, and what it leaves
abbrev pub IsRead : List ℕ → ℕ → ShelfState → Result (Vec ℕ Global) ReadError → ShelfState → Type 0
IsRead name limit before (Ok bytes) after =
    WasRead name before after × (length bytes.items ≤ limit) × IfSome before.files (λ files. files name ≡ Some bytes.items)
IsRead name limit before (Err (TooLong most)) after = WasRead name before after × (most ≡ limit) × IsTooLong name limit before
IsRead name limit before (Err Failed) after = HasFailed name before after
IsRead name limit before (Err Memory) after = (after.names ≡ before.names) × (after.failed ≡ before.failed)

-- the bytes are within the limit, or it is told that they are not
abbrev pub IsWithin : ℕ → Result (Vec ℕ Global) ReadError → Type 0
IsWithin limit (Ok bytes) = length bytes.items ≤ limit
IsWithin limit (Err (TooLong most)) = most ≡ limit
IsWithin limit (Err Failed) = Unit {0}
IsWithin limit (Err Memory) = Unit {0}
