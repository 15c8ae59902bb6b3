-- What a costs file means for a program.
--   below n number, cost_of number   the number, if it is from 0 to below n; if it is a cost
--   default_cost members         the cost of a block of which no entry speaks
--   cost_entry datum             the function's name, the block and the cost of an entry that has its keys
--   function_named program name  the function of this name
--   IsBlock program entry f b    the entry is of block b of function f, which is there
--   cost_by program f b datum    the cost that an entry gives the block
--   last_cost program f b entries    that of the last entry that gives it one
--   told_cost program default entries f b   that, or the default
--   IsCostTable program default entries table   the table has these costs, for each block of each function
--   cost_judging program         when an entry is right, and what is wrong with one
--   cost_entries members         the entries, if only `default` and `cost` stand at the top: a cost, an array of tables
--   MeansCosts bytes program table     the file means these costs
--   RefusesCosts bytes program fault   the file is refused for this fault
use Rattle.std.specs.Prelude.{◌≡◌, ◌<◌, ◌+◌, ◌^◌, ℕ, ℤ, pos, Bool, false, ◌&&◌, ◌||◌, List, [], ◌∷◌, length, Option, Some, None, IsSome, is_some, codes, unwrap_or, if◌then◌else◌, nat_eq, ltb}
use Rattle.std.specs.Option.{option_and_then, option_map_or, option_or}
use Rattle.std.specs.Str.{bytes_eq}
use lib.IntN.{negsuc}
use Rattle.toml.specs.Data.{Data, Members, as_table}
use Rattle.alf_check.specs.CheckedPrograms.{NumberedFunction, NumberedProgram, blocks_at}
use Rattle.cost_table.specs.declared.fault.TableFault.{TableFault}
use Rattle.cost_table.specs.declared.cost_entry.BlockCost.{BlockCost}
use Rattle.cost_table.specs.Documents.{IsDocument, only_keys, text_at, number_at, number_or, entries_at}
use Rattle.cost_table.specs.Entries.{Judging, AllRight, IsRightEntry, IsWrongEntry}
use Rattle.cost_table.specs.Files.{Refuses}
use Rattle.cost_table.specs.CostTables.{CostTable, HasRows, cost_at}

-- ---- costs

-- the number, if it is from 0 to below n
abbrev pub below : ℕ → ℤ → Option ℕ
below n (pos k) = if ltb k n then Some k else None
below n (negsuc k) = None

-- the number as a cost, if it is one
abbrev pub cost_of : ℤ → Option ℕ
cost_of number = below (2 ^ 32) number

-- the cost of a block of which no entry speaks: 1 where the key is absent
abbrev pub default_cost : Members → Option ℕ
default_cost ms = option_and_then cost_of (number_or (pos 1) (codes "default") ms)

-- ---- keys

-- the key is one of an entry
abbrev pub is_cost_key : List ℕ → Bool
is_cost_key key = bytes_eq key (codes "function") || bytes_eq key (codes "block") || bytes_eq key (codes "cost")

-- a name, a block and a cost, if each is there
abbrev pub block_cost : Option (List ℕ) → Option ℤ → Option ℤ → Option (List ℕ × BlockCost)
block_cost None _ _ = None
block_cost (Some function) None _ = None
block_cost (Some function) (Some block) None = None
block_cost (Some function) (Some block) (Some cost) = Some (function, record { block = block; cost = cost })

-- those of an entry with these members, each of which must be there
abbrev pub cost_members : Members → Option (List ℕ × BlockCost)
cost_members ms =
    if only_keys is_cost_key ms
    then block_cost (text_at (codes "function") ms) (number_at (codes "block") ms) (number_at (codes "cost") ms)
    else None

-- those of an entry that has its keys
abbrev pub cost_entry : Data → Option (List ℕ × BlockCost)
cost_entry datum = option_and_then cost_members (as_table datum)

-- ---- blocks

-- the first function with the name, where the first of all has number f
abbrev pub function_from : List ℕ → ℕ → List NumberedFunction → Option ℕ
function_from name f [] = None
function_from name f (function ∷ functions) = if bytes_eq function.name name then Some f else function_from name (f + 1) functions

-- the function of this name
abbrev pub function_named : NumberedProgram → List ℕ → Option ℕ
function_named program name = function_from name 0 program.funcs

-- the entry is of block b of function f, which is there
pub record IsBlock (program : NumberedProgram) (entry : List ℕ × BlockCost) (f b : ℕ) : Type 0 where
  pub named : function_named program entry.0 ≡ Some f
  pub numbered : entry.1.block ≡ pos b
  pub there : b < length (blocks_at program f)

-- the entry is of a block that is there
pub record HasBlock (program : NumberedProgram) (entry : List ℕ × BlockCost) : Type 0 where
  pub function : ℕ
  pub block : ℕ
  pub is : IsBlock program entry function block

-- ---- costs of blocks

-- the number is n
abbrev pub is_number : ℕ → ℤ → Bool
is_number n (pos k) = nat_eq n k
is_number n (negsuc k) = false

-- the entry names function f and block b
abbrev pub is_of : NumberedProgram → ℕ → ℕ → List ℕ × BlockCost → Bool
is_of program f b entry = option_map_or (nat_eq f) (function_named program entry.0) false && is_number b entry.1.block

-- the cost that an entry gives block b of function f
abbrev pub cost_by : NumberedProgram → ℕ → ℕ → Data → Option ℕ
cost_by program f b datum = option_and_then (λ entry. if is_of program f b entry then cost_of entry.1.cost else None) (cost_entry datum)

-- that of the last entry that gives the block one
abbrev pub last_cost : NumberedProgram → ℕ → ℕ → List Data → Option ℕ
last_cost program f b [] = None
last_cost program f b (datum ∷ later) = option_or (last_cost program f b later) (cost_by program f b datum)

-- that, or the default where no entry speaks of the block
abbrev pub told_cost : NumberedProgram → ℕ → List Data → ℕ → ℕ → ℕ
told_cost program default entries f b = unwrap_or (last_cost program f b entries) default

-- the table has these costs, for each block of each function
pub record IsCostTable (program : NumberedProgram) (default : ℕ) (entries : List Data)
    (table : CostTable) : Type 0 where
  pub rows : HasRows program table
  pub others : table.others ≡ default
  pub gives : (f b : ℕ) → cost_at table f b ≡ told_cost program default entries f b

-- ---- entries

-- the entry has its keys, its cost is one, and its block is there
abbrev pub IsRightCost : NumberedProgram → Data → Type 0
IsRightCost program datum = IsRightEntry cost_entry (λ entry. IsSome (cost_of entry.1.cost)) (HasBlock program) datum

-- what is wrong with entry k
abbrev pub IsWrongCost : NumberedProgram → ℕ → Data → TableFault → Type 0
IsWrongCost program k datum fault = IsWrongEntry cost_entry (λ entry. IsSome (cost_of entry.1.cost)) (HasBlock program) k datum fault

abbrev pub cost_judging : NumberedProgram → Judging
cost_judging program = record {
  Right = λ before k datum. IsRightCost program datum;
  Wrong = λ before k datum fault. IsWrongCost program k datum fault;
}

-- ---- files

-- the keys at the top
abbrev pub is_cost_top : List ℕ → Bool
is_cost_top key = bytes_eq key (codes "default") || bytes_eq key (codes "cost")

-- the entries, if only `default` and `cost` stand at the top, a cost and an array of tables
abbrev pub cost_entries : Members → Option (List Data)
cost_entries ms = if only_keys is_cost_top ms && is_some (default_cost ms) then entries_at (codes "cost") ms else None

-- each entry is right, and each block has the cost of its last entry, or the default
pub record MeansCosts (bytes : List ℕ) (program : NumberedProgram) (table : CostTable) : Type 0 where
  pub members : Members
  pub document : IsDocument bytes members
  pub default : ℕ
  pub default_is : default_cost members ≡ Some default
  pub entries : List Data
  pub told : cost_entries members ≡ Some entries
  pub right : AllRight (cost_judging program) entries
  pub costs : IsCostTable program default entries table

-- the file is no document, or has a key fault at the top, or the fault of an entry
abbrev pub RefusesCosts : List ℕ → NumberedProgram → TableFault → Type 0
RefusesCosts bytes program fault = Refuses bytes cost_entries (cost_judging program) fault
