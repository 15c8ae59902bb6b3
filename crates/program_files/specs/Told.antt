-- What told files say that a program is.
--   IsProgramOfText file root files program   the file spells a program of ALF that passes the checks, and this is it
--   IsToldUnit file root files unit           the file spells a unit of C that passes the checks
--   IsProgramOfUnit file root files program   the file spells such a unit; this is what it is lowered to, and each run has the unit's outcome
--   IsToldProgram given root files program    the one or the other, by the language of the file
use Rattle.std.specs.Prelude.{◌≡◌, ℕ, List, Some}
use Rattle.flow_base.specs.Outside.{Files}
use Rattle.alf_program.specs.Tree.{WholeProgram}
use Rattle.alf_text.specs.Language.{SpellsProgram}
use Rattle.alf_check.specs.CheckedPrograms.{NumberedProgram}
use Rattle.alf_check.specs.Numbered.{numbered}
use Rattle.alf_check.specs.Checking.{Passes}
use Rattle.c_unit.specs.Units.{UnitTree}
use Rattle.c_text.specs.Language.{SpellsUnit}
use Rattle.c_check.specs.Programs.{PassesChecks}
use Rattle.c_lowered.specs.Programs.{lowered}
use Rattle.c_lower.specs.Outcomes.{HasUnitsOutcomes}
use Rattle.sweet_words.specs.Files.{ProgramFile, Alf, C}

-- the file spells a program of ALF that passes the checks with this root, and this is it
pub record IsProgramOfText (file root : List ℕ) (files : Files) (program : NumberedProgram) : Type 0 where
  pub bytes : List ℕ
  pub whole : WholeProgram
  pub told : files file ≡ Some bytes
  pub spelled : SpellsProgram bytes whole
  pub passes : Passes whole root
  pub program_is : program ≡ numbered whole root

-- the file spells a unit of C that passes the checks with this root
pub record IsToldUnit (file root : List ℕ) (files : Files) (unit : UnitTree) : Type 0 where
  pub bytes : List ℕ
  pub told : files file ≡ Some bytes
  pub spelled : SpellsUnit bytes unit
  pub passes : PassesChecks unit root

-- the file spells such a unit, and this is the program that it is lowered to; the run of it from each list of numbers
-- inside their ranges has the outcome of the unit from the cells that hold these numbers: what the unit returns and
-- leaves in its global integers, its fault, or no end
pub record IsProgramOfUnit (file root : List ℕ) (files : Files) (program : NumberedProgram) : Type 0 where
  pub unit : UnitTree
  pub unit_told : IsToldUnit file root files unit
  pub program_is : program ≡ numbered (lowered unit) root
  pub outcomes : HasUnitsOutcomes unit root program

-- by the language of the file
abbrev pub IsToldProgram : ProgramFile → List ℕ → Files → NumberedProgram → Type 0
IsToldProgram (Alf file) root files program = IsProgramOfText file root files program
IsToldProgram (C file) root files program = IsProgramOfUnit file root files program
