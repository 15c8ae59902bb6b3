-- The unit of C that a command reads, checked.
--   unit_too_long              the line of a file that has more bytes than a file may have
--   UnitMeans bytes meaning    the unit that the bytes spell, or the line of their first departure
--   unit_in file               a file is read, and its unit
--   UnitCheckMeans unit root meaning   the unit, where it passes them, or the line of what they refuse it by
--   checked_unit_in file root  a file is read, and its unit checked
use Rattle.std.specs.Prelude.{◌≡◌, ℕ, List, Result, Ok, Err, codes}
use Rattle.c_unit.specs.Units.{UnitTree}
use Rattle.c_text.specs.Language.{Departure, Means}
use Rattle.c_rules.specs.Programs.{Refusal, Refuses}
use Rattle.c_check.specs.Programs.{PassesChecks}
use Rattle.command_plans.specs.declared.reading.Role.TheVariants.{Program}
use Rattle.command_plans.specs.Outcome.{Outcome, refused}
use Rattle.command_plans.specs.Work.{Work, reads, judged, ◌>>=◌}
use Rattle.program_files.specs.Programs.{most_bytes_of_a_file}
use Rattle.program_files.specs.UnitLines.{unit_line}
use Rattle.program_files.specs.RefusalLines.{refusal_told}

-- ---- text

-- the line of a file that has more bytes than a file may have
abbrev pub unit_too_long : List ℕ
unit_too_long = codes "fault 93 limit bytes 1048577\n"

-- the bytes of the file, or the line that it has more
abbrev pub unit_bytes : List ℕ → Work (List ℕ)
unit_bytes file = reads Program file most_bytes_of_a_file unit_too_long

-- the unit that the bytes spell, or the line of their first departure from the grammar
abbrev pub UnitMeans : List ℕ → Result UnitTree Outcome → Type 0
UnitMeans bytes (Ok whole) = Means bytes (Ok whole)
UnitMeans bytes (Err outcome) = (departure : Departure) × Means bytes (Err departure) × (outcome ≡ refused (unit_line departure))

unfoldable pub unit_in : List ℕ → Work UnitTree
unit_in file = do
  bytes ← unit_bytes file
  judged (UnitMeans bytes)

-- ---- checks

-- the line tells what the checks refuse the unit by
pub record IsRefusalLine (unit : UnitTree) (root : List ℕ) (outcome : Outcome) : Type 0 where
  pub refusal : Refusal
  pub refuses : Refuses unit root refusal
  pub line : outcome ≡ refusal_told refusal

-- the unit, where it passes the checks, or such a line
abbrev pub UnitCheckMeans : UnitTree → List ℕ → Result UnitTree Outcome → Type 0
UnitCheckMeans unit root (Ok checked) = PassesChecks unit root × (checked ≡ unit)
UnitCheckMeans unit root (Err outcome) = IsRefusalLine unit root outcome

unfoldable pub checked_unit_in : List ℕ → List ℕ → Work UnitTree
checked_unit_in file root = do
  unit ← unit_in file
  judged (UnitCheckMeans unit root)
