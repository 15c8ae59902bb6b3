-- What the words of a command line mean.
--   AnalyseWords, CheckWords, ReplayWords, LowerWords, RunWords, CacheWords, WorstWords   what `analyse`, `check` and the others
--                are given
--   Command      a command, with what it was given
--   IsWithinRanges  the numbers that a command was given are in their ranges
--   command_of   the command of the words, where they are one
use Rattle.std.specs.Prelude.{◌≤◌, ℕ, Bool, false, List, [], ◌∷◌, Option, None, Some, if◌then◌else◌, codes, option_map, option_and_then}
use Rattle.std.specs.Str.{bytes_eq}
use Rattle.sweet_words.specs.Forms.{Text, Form, forms, form_named}
use Rattle.sweet_words.specs.Given.{uses_of, value_in}
use Rattle.sweet_words.specs.Numbers.{IsFromTo, number_or, number_given}
use Rattle.sweet_words.specs.Files.{ProgramFile, program_file, c_file}
use Rattle.sweet_words.specs.Merges.{merging_or_joins}
use Rattle.sweet_words.specs.Roots.{name_or_main}
use Rattle.sweet_words.specs.declared.merging.Merging.{Merging}

-- what `analyse` is given: the file of the program, the function that it starts with, the files of inputs and of costs,
-- the most turns, where states are merged, the most pivots of the path bound, and whether the report has its
-- certificate
pub record AnalyseWords : Type 0 where
  pub program : ProgramFile
  pub root : Text
  pub inputs : Option Text
  pub costs : Option Text
  pub turns : ℕ
  pub merging : Merging
  pub pivots : ℕ
  pub certified : Bool

-- what `check` is given: the files of the program and of the report, the function that the program starts with, and the
-- files of inputs and of costs
pub record CheckWords : Type 0 where
  pub program : ProgramFile
  pub report : Text
  pub root : Text
  pub inputs : Option Text
  pub costs : Option Text

-- what `replay` is given: the same as `check`, and the file of the values of one run
pub record ReplayWords : Type 0 where
  pub program : ProgramFile
  pub report : Text
  pub values : Option Text
  pub root : Text
  pub inputs : Option Text
  pub costs : Option Text

-- what `lower` is given: the name of the file of C, and the function that the program starts with
pub record LowerWords : Type 0 where
  pub file : Text
  pub root : Text

-- what `run` is given: the same as `analyse`, but that nothing is merged and no pivot is made
pub record RunWords : Type 0 where
  pub program : ProgramFile
  pub root : Text
  pub inputs : Option Text
  pub costs : Option Text
  pub turns : ℕ

-- what `cache` is given: the same as `analyse` but for pivots and certificate, and the cache: its sets, its ways, the
-- bytes of a line, and what a miss costs beyond a hit
pub record CacheWords : Type 0 where
  pub program : ProgramFile
  pub root : Text
  pub inputs : Option Text
  pub costs : Option Text
  pub turns : ℕ
  pub merging : Merging
  pub sets : ℕ
  pub ways : ℕ
  pub line : ℕ
  pub penalty : ℕ

-- what `worst` is given: the same as `analyse` but for the certificate, and the most splits of a box of inputs
pub record WorstWords : Type 0 where
  pub program : ProgramFile
  pub root : Text
  pub inputs : Option Text
  pub costs : Option Text
  pub turns : ℕ
  pub merging : Merging
  pub pivots : ℕ
  pub splits : ℕ

-- a command
pub data Command : Type 0 where
  Analyse : AnalyseWords → Command
  Check : CheckWords → Command
  Replay : ReplayWords → Command
  Lower : LowerWords → Command
  -- the file of the program
  Print : ProgramFile → Command
  Run : RunWords → Command
  -- how many pairs of loops the program has that is made
  Generate : ℕ → Command
  -- the name of the file of the report
  Migrate : Text → Command
  Cache : CacheWords → Command
  Worst : WorstWords → Command
  -- the name of the file of the tasks
  Tasks : Text → Command

-- the numbers of `cache` are in their ranges
pub record IsCacheWithin (given : CacheWords) : Type 0 where
  pub turns : given.turns ≤ 1000000
  pub sets : IsFromTo 1 1024 given.sets
  pub ways : IsFromTo 1 16 given.ways
  pub line : IsFromTo 4 4096 given.line
  pub penalty : given.penalty ≤ 4294967295

-- the numbers of `worst` are in their ranges
pub record IsWorstWithin (given : WorstWords) : Type 0 where
  pub turns : given.turns ≤ 1000000
  pub splits : IsFromTo 1 256 given.splits

-- the numbers that a command was given are in their ranges: no exploration is given more than 1,000,000 turns
abbrev pub IsWithinRanges : Command → Type 0
IsWithinRanges (Analyse given) = given.turns ≤ 1000000
IsWithinRanges (Check given) = Unit {0}
IsWithinRanges (Replay given) = Unit {0}
IsWithinRanges (Lower given) = Unit {0}
IsWithinRanges (Print program) = Unit {0}
IsWithinRanges (Run given) = given.turns ≤ 1000000
IsWithinRanges (Generate number) = IsFromTo 1 40 number
IsWithinRanges (Migrate report) = Unit {0}
IsWithinRanges (Cache given) = IsCacheWithin given
IsWithinRanges (Worst given) = IsWorstWithin given
IsWithinRanges (Tasks file) = Unit {0}

-- the next value, where there is one
infixl 10 ◌>>=◌
abbrev ◌>>=◌ : {A B : Type 0} → Option A → (A → Option B) → Option B
found >>= next = option_and_then next found

-- the name of the root function, which is `main` where it is left out
abbrev pub root_in : (Text → Option Text) → Option Text
root_in value = name_or_main (value (codes "root"))

-- the turns are 1 to 1,000,000, and 100,000 where they are left out
abbrev pub turns_in : (Text → Option Text) → Option ℕ
turns_in value = number_or 100000 1 1000000 (value (codes "turns"))

-- states are merged everywhere where the words do not say
abbrev pub merging_in : (Text → Option Text) → Option Merging
merging_in value = merging_or_joins (value (codes "merge"))

-- the pivots are 1 to 4,000, and 1,000 where they are left out
abbrev pub pivots_in : (Text → Option Text) → Option ℕ
pivots_in value = number_or 1000 1 4000 (value (codes "pivots"))

-- the flag stands among the words
abbrev pub is_set : Option Text → Bool
is_set None = false
is_set (Some text) = bytes_eq text (codes "true")

-- `analyse FILE --root NAME --inputs FILE --costs FILE --turns N --merge none|exits|joins --pivots N --cert`
abbrev pub analyse_words : (Text → Option Text) → ProgramFile → Text → ℕ → Merging → ℕ → AnalyseWords
analyse_words value program root turns merging pivots = record {
  program = program;
  root = root;
  inputs = value (codes "inputs");
  costs = value (codes "costs");
  turns = turns;
  merging = merging;
  pivots = pivots;
  certified = is_set (value (codes "cert"));
}

-- the file of the program
abbrev pub file_in : (Text → Option Text) → Option ProgramFile
file_in value = option_map program_file (value (codes "file"))

abbrev pub analyse_of : (Text → Option Text) → Option Command
analyse_of value = do
  program ← file_in value
  root ← root_in value
  turns ← turns_in value
  merging ← merging_in value
  pivots ← pivots_in value
  Some (Analyse (analyse_words value program root turns merging pivots))

-- `check FILE REPORT --root NAME --inputs FILE --costs FILE`
abbrev pub check_words : (Text → Option Text) → ProgramFile → Text → Text → CheckWords
check_words value program report root =
    record { program = program; report = report; root = root; inputs = value (codes "inputs"); costs = value (codes "costs") }

abbrev pub check_of : (Text → Option Text) → Option Command
check_of value = do
  program ← file_in value
  report ← value (codes "report")
  root ← root_in value
  Some (Check (check_words value program report root))

-- `replay FILE REPORT --at FILE --root NAME --inputs FILE --costs FILE`
abbrev pub replay_words : (Text → Option Text) → ProgramFile → Text → Text → ReplayWords
replay_words value program report root = record {
  program = program;
  report = report;
  values = value (codes "at");
  root = root;
  inputs = value (codes "inputs");
  costs = value (codes "costs");
}

abbrev pub replay_of : (Text → Option Text) → Option Command
replay_of value = do
  program ← file_in value
  report ← value (codes "report")
  root ← root_in value
  Some (Replay (replay_words value program report root))

-- `lower FILE --root NAME`: the file is one of C
abbrev pub lower_of : (Text → Option Text) → Option Command
lower_of value = do
  program ← file_in value
  file ← c_file program
  root ← root_in value
  Some (Lower (record { file = file; root = root }))

-- `print FILE`
abbrev pub print_of : (Text → Option Text) → Option Command
print_of value = option_map (λ program. Print program) (file_in value)

-- `run FILE --root NAME --inputs FILE --costs FILE --turns N`
abbrev pub run_words : (Text → Option Text) → ProgramFile → Text → ℕ → RunWords
run_words value program root turns =
    record { program = program; root = root; inputs = value (codes "inputs"); costs = value (codes "costs"); turns = turns }

abbrev pub run_of : (Text → Option Text) → Option Command
run_of value = do
  program ← file_in value
  root ← root_in value
  turns ← turns_in value
  Some (Run (run_words value program root turns))

-- ---- programs that are made, and reports of an older form

-- `generate N`: 1 to 40
abbrev pub generate_of : (Text → Option Text) → Option Command
generate_of value = option_map (λ number. Generate number) (number_given 1 40 (value (codes "number")))

-- `migrate REPORT`
abbrev pub migrate_of : (Text → Option Text) → Option Command
migrate_of value = option_map (λ report. Migrate report) (value (codes "report"))

-- ---- the cache

-- 1 to 1,024 sets, and the option must not be left out; nor must the others of the cache
abbrev pub sets_in : (Text → Option Text) → Option ℕ
sets_in value = number_given 1 1024 (value (codes "sets"))

-- 1 to 16 ways
abbrev pub ways_in : (Text → Option Text) → Option ℕ
ways_in value = number_given 1 16 (value (codes "ways"))

-- a line has 4 to 4,096 bytes
abbrev pub line_in : (Text → Option Text) → Option ℕ
line_in value = number_given 4 4096 (value (codes "line"))

-- a miss costs up to 4,294,967,295 more than a hit
abbrev pub penalty_in : (Text → Option Text) → Option ℕ
penalty_in value = number_given 0 4294967295 (value (codes "penalty"))

-- `cache FILE --sets N --ways N --line N --penalty N --root NAME --inputs FILE --costs FILE --turns N --merge
-- none|exits|joins`
abbrev pub cache_words : (Text → Option Text) → ProgramFile → Text → ℕ → Merging → ℕ → ℕ → ℕ → ℕ → CacheWords
cache_words value program root turns merging sets ways line penalty = record {
  program = program;
  root = root;
  inputs = value (codes "inputs");
  costs = value (codes "costs");
  turns = turns;
  merging = merging;
  sets = sets;
  ways = ways;
  line = line;
  penalty = penalty;
}

abbrev pub cache_of : (Text → Option Text) → Option Command
cache_of value = do
  program ← file_in value
  root ← root_in value
  turns ← turns_in value
  merging ← merging_in value
  sets ← sets_in value
  ways ← ways_in value
  line ← line_in value
  penalty ← penalty_in value
  Some (Cache (cache_words value program root turns merging sets ways line penalty))

-- ---- boxes of inputs

-- the splits are 1 to 256, and 16 where they are left out
abbrev pub splits_in : (Text → Option Text) → Option ℕ
splits_in value = number_or 16 1 256 (value (codes "splits"))

-- `worst FILE --splits N --root NAME --inputs FILE --costs FILE --turns N --merge none|exits|joins --pivots N`
abbrev pub worst_words : (Text → Option Text) → ProgramFile → Text → ℕ → Merging → ℕ → ℕ → WorstWords
worst_words value program root turns merging pivots splits = record {
  program = program;
  root = root;
  inputs = value (codes "inputs");
  costs = value (codes "costs");
  turns = turns;
  merging = merging;
  pivots = pivots;
  splits = splits;
}

abbrev pub worst_of : (Text → Option Text) → Option Command
worst_of value = do
  program ← file_in value
  root ← root_in value
  turns ← turns_in value
  merging ← merging_in value
  pivots ← pivots_in value
  splits ← splits_in value
  Some (Worst (worst_words value program root turns merging pivots splits))

-- ---- tasks

-- `tasks FILE`
abbrev pub tasks_of : (Text → Option Text) → Option Command
tasks_of value = option_map (λ file. Tasks file) (value (codes "file"))

-- ---- commands

-- the command of this name, by the value of each name
abbrev pub command_named : Text → (Text → Option Text) → Option Command
command_named name value =
    if bytes_eq name (codes "analyse") then analyse_of value
    else if bytes_eq name (codes "check") then check_of value
    else if bytes_eq name (codes "replay") then replay_of value
    else if bytes_eq name (codes "lower") then lower_of value
    else if bytes_eq name (codes "print") then print_of value
    else if bytes_eq name (codes "run") then run_of value
    else if bytes_eq name (codes "generate") then generate_of value
    else if bytes_eq name (codes "migrate") then migrate_of value
    else if bytes_eq name (codes "cache") then cache_of value
    else if bytes_eq name (codes "worst") then worst_of value
    else if bytes_eq name (codes "tasks") then tasks_of value
    else None

-- the command that the words after its name make
abbrev pub command_in : Form → List Text → Option Command
command_in form words = option_and_then (λ uses. command_named form.name (value_in form uses)) (uses_of form words)

-- the command of the words: the first is its name
abbrev pub command_of : List (List ℕ) → Option Command
command_of [] = None
command_of (name ∷ words) = option_and_then (λ form. command_in form words) (form_named name forms)
