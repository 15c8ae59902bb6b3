-- What a tasks file means.
--   is_task_key key              the key is one of an entry
--   task_entry datum             the name and the numbers of an entry that has its keys
--   IsFrom least number          the number is at least the least one and has 32 bits
--   AreInRange numbers           the numbers are in their ranges, and the deadline is no longer than the period
--   HasNumbers numbers sizes     these are the numbers, without a sign
--   IsNameByte byte, IsTaskName name   the byte may stand in a task's name, the text may be one
--   IsTaskRange earlier entry    the name and the numbers are in their ranges, and no earlier task has the priority
--   task_of entry                the task that an entry tells
--   tasks_in entries             the tasks of all these entries
--   task_judging                 when an entry is right, and what is wrong with one
--   task_entries members         the entries, if only the key `task` stands at the top, with an array of tables
--   HasTooMany bytes             the file has more than 64 entries
--   MeansTasks bytes tasks       the file means these tasks
--   RefusesTasks bytes fault     the file is refused for this fault
use Rattle.std.specs.Prelude.{◌≡◌, ◌≢◌, ◌≤◌, ◌<◌, ◌^◌, ⊤, ℕ, ℤ, pos, Bool, ◌||◌, List, [], ◌∷◌, length, Option, Some, None, codes, if◌then◌else◌}
use Rattle.std.specs.Option.{option_and_then, option_map_or}
use Rattle.std.specs.List.{All, flat_map}
use Rattle.std.specs.Str.{bytes_eq}
use lib.Signed.{◌<ℤ◌, ◌≤ℤ◌}
use Rattle.toml.specs.Data.{Data, Members, as_table}
use Rattle.flow_base.specs.declared.place.Which.TheVariants as which
use Rattle.cost_table.specs.declared.fault.TableFault.{TableFault}
use Rattle.cost_table.specs.declared.fault.TableFault.TheVariants as faults
use Rattle.cost_table.specs.declared.task_set.Task.{Task}
use Rattle.cost_table.specs.declared.task_entry.TaskNumbers.{TaskNumbers}
use Rattle.cost_table.specs.declared.task_entry.Sizes.{Sizes}
use Rattle.cost_table.specs.Documents.{only_keys, text_at, number_at, entries_at}
use Rattle.cost_table.specs.Entries.{Judging, AllRight, IsRightEntry, IsWrongEntry}
use Rattle.cost_table.specs.Files.{HasEntries, Refuses}
use Rattle.cost_table.specs.Inputs.{whole}

-- ---- keys

-- the key is one of an entry
abbrev pub is_task_key : List ℕ → Bool
is_task_key key = bytes_eq key (codes "name") || bytes_eq key (codes "cost") || bytes_eq key (codes "period") || bytes_eq key (codes "deadline") || bytes_eq key (codes "priority")

-- a name and numbers, if each part is there
abbrev pub numbers_of : Option (List ℕ) → Option ℤ → Option ℤ → Option ℤ → Option ℤ → Option (List ℕ × TaskNumbers)
numbers_of None _ _ _ _ = None
numbers_of (Some name) None _ _ _ = None
numbers_of (Some name) (Some cost) None _ _ = None
numbers_of (Some name) (Some cost) (Some period) None _ = None
numbers_of (Some name) (Some cost) (Some period) (Some deadline) None = None
numbers_of (Some name) (Some cost) (Some period) (Some deadline) (Some priority) = Some (name, record { cost = cost; period = period; deadline = deadline; priority = priority })

-- those of an entry with these members, each of which must be there
abbrev pub task_members : Members → Option (List ℕ × TaskNumbers)
task_members ms =
    if only_keys is_task_key ms
    then numbers_of (text_at (codes "name") ms) (number_at (codes "cost") ms) (number_at (codes "period") ms) (number_at (codes "deadline") ms) (number_at (codes "priority") ms)
    else None

-- those of an entry that has its keys
abbrev pub task_entry : Data → Option (List ℕ × TaskNumbers)
task_entry datum = option_and_then task_members (as_table datum)

-- ---- ranges

-- the number is at least the least one and has 32 bits
pub record IsFrom (least : ℕ) (number : ℤ) : Type 0 where
  pub low : pos least ≤ℤ number
  pub high : number <ℤ pos (2 ^ 32)

-- the numbers are in their ranges, and the deadline is no longer than the period
pub record AreInRange (numbers : TaskNumbers) : Type 0 where
  pub cost : IsFrom 1 numbers.cost
  pub period : IsFrom 1 numbers.period
  pub deadline : IsFrom 1 numbers.deadline
  pub priority : IsFrom 0 numbers.priority
  pub constrained : numbers.deadline ≤ℤ numbers.period

-- these are the numbers, without a sign
pub record HasNumbers (numbers : TaskNumbers) (sizes : Sizes) : Type 0 where
  pub cost : numbers.cost ≡ pos sizes.cost
  pub period : numbers.period ≡ pos sizes.period
  pub deadline : numbers.deadline ≡ pos sizes.deadline
  pub priority : numbers.priority ≡ pos sizes.priority

-- a character of ASCII that is printed, but no quotation mark and no backslash
pub record IsNameByte (byte : ℕ) : Type 0 where
  pub from : 32 ≤ byte
  pub to : byte ≤ 126
  pub no_quotation_mark : byte ≢ 34
  pub no_backslash : byte ≢ 92

-- 1 to 64 of these
pub record IsTaskName (name : List ℕ) : Type 0 where
  pub some : 1 ≤ length name
  pub few : length name ≤ 64
  pub each : All IsNameByte name

-- the name and the numbers are in their ranges, and no earlier task has the priority
pub record IsTaskRange (earlier : List Task) (entry : List ℕ × TaskNumbers) : Type 0 where
  pub name : IsTaskName entry.0
  pub numbers : AreInRange entry.1
  pub free : All (λ task. task.priority ≢ whole entry.1.priority) earlier

-- ---- tasks

-- the task that an entry tells
abbrev pub task_of : List ℕ × TaskNumbers → Task
task_of entry = record {
  name = entry.0;
  cost = whole entry.1.cost;
  period = whole entry.1.period;
  deadline = whole entry.1.deadline;
  priority = whole entry.1.priority;
}

-- the task of an entry, none where it has not its keys
abbrev pub entry_tasks : Data → List Task
entry_tasks datum = option_map_or (λ entry. task_of entry ∷ []) (task_entry datum) []

-- the tasks of all these entries
abbrev pub tasks_in : List Data → List Task
tasks_in entries = flat_map entry_tasks entries

-- ---- entries

-- the entry has its keys, and is in range after these tasks
abbrev pub IsRightTask : List Task → Data → Type 0
IsRightTask earlier datum = IsRightEntry task_entry (IsTaskRange earlier) (λ entry. ⊤) datum

-- what is wrong with entry k after these tasks
abbrev pub IsWrongTask : List Task → ℕ → Data → TableFault → Type 0
IsWrongTask earlier k datum fault = IsWrongEntry task_entry (IsTaskRange earlier) (λ entry. ⊤) k datum fault

abbrev pub task_judging : Judging
task_judging = record {
  Right = λ before k datum. IsRightTask (tasks_in before) datum;
  Wrong = λ before k datum fault. IsWrongTask (tasks_in before) k datum fault;
}

-- ---- files

-- the key at the top
abbrev pub is_task_top : List ℕ → Bool
is_task_top key = bytes_eq key (codes "task")

-- the entries, if only `task` stands at the top, with an array of tables
abbrev pub task_entries : Members → Option (List Data)
task_entries ms = if only_keys is_task_top ms then entries_at (codes "task") ms else None

-- the file has more than 64 entries
pub record HasTooMany (bytes : List ℕ) : Type 0 where
  pub entries : List Data
  pub told : HasEntries bytes task_entries entries
  pub many : 64 < length entries

-- there are at most 64 entries, each is right, and the tasks are those of all entries, in order
pub record MeansTasks (bytes : List ℕ) (tasks : List Task) : Type 0 where
  pub entries : List Data
  pub told : HasEntries bytes task_entries entries
  pub few : length entries ≤ 64
  pub right : AllRight task_judging entries
  pub all : tasks ≡ tasks_in entries

-- the file has more than 64 entries, or else it is no document, or has a key fault at the top, or the fault of an entry
pub data RefusesTasks (bytes : List ℕ) : TableFault → Type 0 where
  TooMany : HasTooMany bytes → RefusesTasks bytes (faults.Limit which.Tasks 65)
  Otherwise : (fault : TableFault) → ¬ HasTooMany bytes → Refuses bytes task_entries task_judging fault
      → RefusesTasks bytes fault
