-- The program of ALF that a command reads, checked.
--   most_bytes_of_a_file, too_long         the most bytes of a file, and the line of one that has more
--   ProgramMeans bytes meaning   the program that the bytes spell, or the line of their first departure
--   program_in file              a file is read, and its program
--   CheckMeans whole root meaning   the program with numbers in place of names, where it passes the checks, or the line of its fault
--   numbered_in file root        a file is read, and its program checked
use Rattle.std.specs.Prelude.{◌≡◌, ℕ, List, Result, Ok, Err, Some, codes}
use Rattle.alf_program.specs.Tree.{WholeProgram}
use Rattle.alf_text.specs.Language.{Departure, Means}
use Rattle.alf_check.specs.CheckedPrograms.{NumberedProgram}
use Rattle.alf_check.specs.Numbered.{numbered}
use Rattle.alf_check.specs.Checking.{Passes, IsTold}
use Rattle.alf_check.specs.declared.fault.CheckFault.{CheckFault}
use Rattle.command_plans.specs.declared.reading.Role.TheVariants.{Program}
use Rattle.command_plans.specs.Outcome.{Outcome, refused}
use Rattle.command_plans.specs.Work.{Work, reads, judged, ◌>>=◌}
use Rattle.program_files.specs.FaultLines.{fault_line}
use Rattle.program_files.specs.CheckLines.{check_line, check_cause}

-- ---- text

-- the most bytes of a program's file, and of each other
abbrev pub most_bytes_of_a_file : ℕ
most_bytes_of_a_file = 1048576

-- the line of a file that has more
abbrev pub too_long : List ℕ
too_long = codes "fault 13 limit bytes 1048577\n"

-- the bytes of the file, or the line that it has more
abbrev pub program_bytes : List ℕ → Work (List ℕ)
program_bytes file = reads Program file most_bytes_of_a_file too_long

-- the program that the bytes spell, or the line of their first departure from the grammar
abbrev pub ProgramMeans : List ℕ → Result WholeProgram Outcome → Type 0
ProgramMeans bytes (Ok whole) = Means bytes (Ok whole)
ProgramMeans bytes (Err outcome) = (departure : Departure) × Means bytes (Err departure) × (outcome ≡ refused (fault_line departure))

unfoldable pub program_in : List ℕ → Work WholeProgram
program_in file = do
  bytes ← program_bytes file
  judged (ProgramMeans bytes)

-- ---- checks

-- the line tells what is wrong
pub record IsCheckLine (whole : WholeProgram) (root : List ℕ) (outcome : Outcome) : Type 0 where
  pub fault : CheckFault
  pub told : IsTold whole root fault
  pub line : check_line fault ≡ Some outcome.text
  pub cause : outcome.cause ≡ check_cause fault

-- the program, where it passes the checks, or the line of its fault
abbrev pub CheckMeans : WholeProgram → List ℕ → Result NumberedProgram Outcome → Type 0
CheckMeans whole root (Ok program) = Passes whole root × (program ≡ numbered whole root)
CheckMeans whole root (Err outcome) = IsCheckLine whole root outcome

-- a program that passes the checks, and starts with the function of this name
unfoldable pub numbered_in : List ℕ → List ℕ → Work NumberedProgram
numbered_in file root = do
  whole ← program_in file
  judged (CheckMeans whole root)
