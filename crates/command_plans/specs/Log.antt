-- What was read of a shelf, as much as it tells.
--   Log                    the count of reads, and the names, where they are told
--   log_of shelf           the log of a shelf
--   log_with log name      the log, and a read of this name
--   log_after log names    the log, and reads of these names in their order
--   GrewAlike p m q n      from p to m and from q to n the same names were read, in the same order
use Rattle.std.specs.Prelude.{◌≡◌, ℕ, List, [], ◌∷◌, Option}
use Rattle.flow_base.specs.Outside.{next_count}
use Rattle.flow_base.specs.Shelves.{ShelfState, names_with}

pub record Log : Type 0 where
  pub reads : ℕ
  pub names : Option (List (List ℕ))

abbrev pub log_of : ShelfState → Log
log_of shelf = record { reads = shelf.reads; names = shelf.names }

-- the log, and a read of this name
abbrev pub log_with : Log → List ℕ → Log
log_with log name = record { reads = next_count log.reads; names = names_with log.names name }

-- the log, and reads of these names in their order
abbrev pub log_after : Log → List (List ℕ) → Log
log_after log [] = log
log_after log (name ∷ names) = log_after (log_with log name) names

-- the same names were read, in the same order
pub record GrewAlike (p m q n : Log) : Type 0 where
  pub names : List (List ℕ)
  pub first : m ≡ log_after p names
  pub second : n ≡ log_after q names
