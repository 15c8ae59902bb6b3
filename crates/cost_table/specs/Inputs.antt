-- What an inputs file means for a program.
--   is_input_key key             the key is one of an entry
--   input_entry datum             the frame's name and the cells of an entry that has its keys
--   HasRange cells words half    low and high are numbers of the size, with fewer than all words between them
--   IsRun cells run              the cells' numbers are in their ranges, and this is their size and count
--   IsInRange cells              the numbers are in their ranges
--   input_frame program name     the frame of this name among the global frames and the arguments of the root
--   LiesIn program entry f       the cells lie in frame f, which has the name
--   rows_from row n              the row, and those of the n - 1 cells after it
--   rows_of program entry        the rows of an entry
--   rows_in program entries      the rows of all these entries
--   InputJudging program         when an entry is right, and what is wrong with one
--   input_entries members        the entries, if only the key `input` stands at the top, with an array of tables
--   MeansInputs bytes program rows      the file means these rows
--   RefusesInputs bytes program fault   the file is refused for this fault
use Rattle.std.specs.Prelude.{◌≡◌, ◌≤◌, ◌+◌, ◌*◌, ◌/◌, ◌^◌, ◌-◌, ℕ, zero, suc, ℤ, pos, Bool, true, ◌&&◌, ◌||◌, List, [], ◌∷◌, All, Option, Some, None, codes, is_none, slice_get, if◌then◌else◌, nat_eq}
use Rattle.std.specs.Option.{option_and_then, option_map_or}
use Rattle.std.specs.List.{flat_map, list_any}
use Rattle.std.specs.Str.{bytes_eq}
use lib.IntN.{◌-ℤ◌, neg_ℤ, negsuc}
use lib.Signed.{◌<ℤ◌, ◌≤ℤ◌}
use Rattle.toml.specs.Data.{Data, Members, as_table}
use Rattle.alf_faults.specs.Sizes.{is_export_size}
use Rattle.alf_check.specs.declared.rows.FrameRow.{FrameRow}
use Rattle.alf_check.specs.declared.rows.InputRow.{InputRow}
use Rattle.alf_check.specs.CheckedPrograms.{NumberedFunction, NumberedProgram}
use Rattle.alf_check.specs.Inputs.{ShareNoByte}
use Rattle.cost_table.specs.declared.fault.TableFault.{TableFault}
use Rattle.cost_table.specs.declared.input_entry.Cells.{Cells}
use Rattle.cost_table.specs.declared.input_entry.Run.{Run}
use Rattle.cost_table.specs.Documents.{only_keys, text_at, number_at, number_or, entries_at}
use Rattle.cost_table.specs.Entries.{Judging, AllRight, IsRightEntry, IsWrongEntry}
use Rattle.cost_table.specs.Files.{HasEntries, Refuses}

-- ---- keys

-- the key is one of an entry
abbrev pub is_input_key : List ℕ → Bool
is_input_key key = bytes_eq key (codes "frame") || bytes_eq key (codes "offset") || bytes_eq key (codes "size") || bytes_eq key (codes "low") || bytes_eq key (codes "high") || bytes_eq key (codes "count")

-- a name and cells, if each part is there
abbrev pub entry_of : Option (List ℕ) → Option ℤ → Option ℤ → Option ℤ → Option ℤ → Option ℤ → Option (List ℕ × Cells)
entry_of None _ _ _ _ _ = None
entry_of (Some frame) None _ _ _ _ = None
entry_of (Some frame) (Some offset) None _ _ _ = None
entry_of (Some frame) (Some offset) (Some size) None _ _ = None
entry_of (Some frame) (Some offset) (Some size) (Some low) None _ = None
entry_of (Some frame) (Some offset) (Some size) (Some low) (Some high) None = None
entry_of (Some frame) (Some offset) (Some size) (Some low) (Some high) (Some count) = Some (frame, record { offset = offset; size = size; low = low; high = high; count = count })

-- the frame's name and the cells of an entry with these members, of which `count` alone may be absent, for 1
abbrev pub input_members : Members → Option (List ℕ × Cells)
input_members ms =
    if only_keys is_input_key ms
    then entry_of (text_at (codes "frame") ms) (number_at (codes "offset") ms) (number_at (codes "size") ms) (number_at (codes "low") ms) (number_at (codes "high") ms) (number_or (pos 1) (codes "count") ms)
    else None

-- the frame's name and the cells of an entry that has its keys
abbrev pub input_entry : Data → Option (List ℕ × Cells)
input_entry datum = option_and_then input_members (as_table datum)

-- ---- ranges

-- low is at most high, both are numbers of the size, signed or unsigned, and fewer than all words lie between them
pub record HasRange (cells : Cells) (words half : ℤ) : Type 0 where
  pub ordered : cells.low ≤ℤ cells.high
  pub least : neg_ℤ half ≤ℤ cells.low
  pub most : cells.high <ℤ words
  pub narrow : (cells.high -ℤ cells.low) <ℤ words

-- a size of 8, 16, 32 or 64 bits, a count of 1 to 65,536, and a range of the size
pub record IsRun (cells : Cells) (run : Run) : Type 0 where
  pub size : cells.size ≡ pos run.bits
  pub sized : is_export_size run.bits ≡ true
  pub count : cells.count ≡ pos run.count
  pub some : 1 ≤ run.count
  pub few : run.count ≤ 65536
  pub range : HasRange cells (pos (2 ^ run.bits)) (pos (2 ^ (run.bits - 1)))

-- the numbers are in their ranges
pub record IsInRange (cells : Cells) : Type 0 where
  pub run : Run
  pub is_run : IsRun cells run

-- ---- cells

-- the arguments of the function that the program starts with
abbrev pub root_arguments : NumberedProgram → List ℕ
root_arguments program = option_map_or (λ (function : NumberedFunction). function.args) (slice_get program.funcs program.root) []

-- frame f has the name and is global or among the arguments
abbrev pub is_input_frame : List ℕ → List ℕ → ℕ → FrameRow → Bool
is_input_frame args name f row = bytes_eq row.name name && (is_none row.owner || list_any (nat_eq f) args)

-- the first frame with the name that is global or among the arguments, where the first of all has number f
abbrev pub frame_from : List ℕ → List ℕ → ℕ → List FrameRow → Option ℕ
frame_from args name f [] = None
frame_from args name f (row ∷ rows) = if is_input_frame args name f row then Some f else frame_from args name (f + 1) rows

-- the frame of this name among the global frames and the arguments of the root
abbrev pub input_frame : NumberedProgram → List ℕ → Option ℕ
input_frame program name = frame_from (root_arguments program) name 0 program.frames

-- a whole number that is not negative, as one without a sign
abbrev pub whole : ℤ → ℕ
whole (pos n) = n
whole (negsuc n) = 0

-- the cells lie in frame f, which has the name
pub record LiesIn (program : NumberedProgram) (entry : List ℕ × Cells) (f : ℕ) : Type 0 where
  pub row : FrameRow
  pub named : input_frame program entry.0 ≡ Some f
  pub at : slice_get program.frames f ≡ Some row
  pub from : pos 0 ≤ℤ entry.1.offset
  pub to : whole entry.1.offset + whole entry.1.count * (whole entry.1.size / 8) ≤ row.bits / 8

-- the cell after the row's
abbrev pub after : InputRow → InputRow
after row = record { frame = row.frame; offset = row.offset + row.size / 8; size = row.size; low = row.low; high = row.high }

-- the row, and those of the n - 1 cells after it
abbrev pub rows_from : InputRow → ℕ → List InputRow
rows_from row zero = []
rows_from row (suc n) = row ∷ rows_from (after row) n

-- the row of the first cell, in frame f
abbrev pub first_row : Cells → ℕ → InputRow
first_row cells f = record { frame = f; offset = whole cells.offset; size = whole cells.size; low = cells.low; high = cells.high }

-- the rows of an entry
abbrev pub rows_of : NumberedProgram → List ℕ × Cells → List InputRow
rows_of program entry = option_map_or (λ f. rows_from (first_row entry.1 f) (whole entry.1.count)) (input_frame program entry.0) []

-- the rows of an entry, none where it has not its keys
abbrev pub entry_rows : NumberedProgram → Data → List InputRow
entry_rows program datum = option_map_or (rows_of program) (input_entry datum) []

-- the rows of all these entries
abbrev pub rows_in : NumberedProgram → List Data → List InputRow
rows_in program entries = flat_map (entry_rows program) entries

-- no row shares a byte with one of the earlier rows
abbrev pub AreApart : List InputRow → List InputRow → Type 0
AreApart earlier rows = All (λ a. All (ShareNoByte a) rows) earlier

-- each cell of the entry is in a frame, and shares no byte with a cell of the earlier entries
pub record HasCells (program : NumberedProgram) (earlier : List InputRow) (entry : List ℕ × Cells) : Type 0 where
  pub frame : ℕ
  pub lies : LiesIn program entry frame
  pub apart : AreApart earlier (rows_of program entry)

-- ---- entries

-- the entry has its keys, its numbers are in their ranges, and its cells are there and free
abbrev pub IsRightInput : NumberedProgram → List InputRow → Data → Type 0
IsRightInput program earlier datum = IsRightEntry input_entry (λ entry. IsInRange entry.1) (HasCells program earlier) datum

-- what is wrong with entry k
abbrev pub IsWrongInput : NumberedProgram → List InputRow → ℕ → Data → TableFault → Type 0
IsWrongInput program earlier k datum fault = IsWrongEntry input_entry (λ entry. IsInRange entry.1) (HasCells program earlier) k datum fault

abbrev pub input_judging : NumberedProgram → Judging
input_judging program = record {
  Right = λ before k datum. IsRightInput program (rows_in program before) datum;
  Wrong = λ before k datum fault. IsWrongInput program (rows_in program before) k datum fault;
}

-- ---- files

-- the key at the top
abbrev pub is_input_top : List ℕ → Bool
is_input_top key = bytes_eq key (codes "input")

-- the entries, if only `input` stands at the top, with an array of tables
abbrev pub input_entries : Members → Option (List Data)
input_entries ms = if only_keys is_input_top ms then entries_at (codes "input") ms else None

-- each entry is right, and the rows are those of all entries, in order
pub record MeansInputs (bytes : List ℕ) (program : NumberedProgram) (rows : List InputRow) : Type 0 where
  pub entries : List Data
  pub told : HasEntries bytes input_entries entries
  pub right : AllRight (input_judging program) entries
  pub all : rows ≡ rows_in program entries

-- the file is no document, or has a key fault at the top, or the fault of an entry
abbrev pub RefusesInputs : List ℕ → NumberedProgram → TableFault → Type 0
RefusesInputs bytes program fault = Refuses bytes input_entries (input_judging program) fault
