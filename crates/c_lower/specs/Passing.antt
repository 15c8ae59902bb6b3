-- What becomes of the lowered program of a text of few tokens.
--   TextHasFewTokens            four labels for each token have numbers of 64 bits
--   SpelledProgramsAreWritten   the lowered program can be written
--   SpelledProgramsPass         it passes the checks of ALF
--   SpelledProgramsHaveFewNumbers   64 bits have the numbers of its labels and calls
use Rattle.std.specs.Prelude.{◌<◌, ◌^◌, ℕ, List, length}
use Rattle.alf_program.specs.Writable.{IsWritable}
use Rattle.alf_check.specs.Checking.{Passes}
use Rattle.c_unit.specs.Units.{UnitTree}
use Rattle.c_text.specs.Language.{IsSpelled}
use Rattle.c_rules.specs.Programs.{IsProgram}
use Rattle.c_meaning.specs.Objects.{program_of}
use Rattle.c_lowered.specs.Programs.{lowered}
use Rattle.c_lower.specs.Walk.{HaveFewNumbers}

abbrev pub TextHasFewTokens : UnitTree → Type 0
TextHasFewTokens unit = length unit.words < 2 ^ 62

abbrev pub SpelledProgramsAreWritten : Type 0
SpelledProgramsAreWritten = (unit : UnitTree) (root ranks : List ℕ) → IsProgram unit root ranks → IsSpelled unit → TextHasFewTokens unit → IsWritable (lowered unit)

abbrev pub SpelledProgramsPass : Type 0
SpelledProgramsPass = (unit : UnitTree) (root ranks : List ℕ) → IsProgram unit root ranks → IsSpelled unit → TextHasFewTokens unit → Passes (lowered unit) root

abbrev pub SpelledProgramsHaveFewNumbers : Type 0
SpelledProgramsHaveFewNumbers = (unit : UnitTree) (root ranks : List ℕ) → IsProgram unit root ranks → IsSpelled unit → TextHasFewTokens unit → HaveFewNumbers (program_of unit) unit.externals
