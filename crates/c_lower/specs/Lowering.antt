-- Each checked program to which a text of C is lowered has the outcome of the text.
--   SpelledProgramsAreRight the law for cells of the unit: faults included, in as many turns as steps
--   SpelledStartsAreRight   the law for each list of numbers inside the ranges of the program's input rows
use Rattle.std.specs.Prelude.{ℕ, ℤ, List}
use Rattle.alf_check.specs.declared.rows.InputRow.{InputRow}
use Rattle.alf_check.specs.CheckedPrograms.{NumberedProgram}
use Rattle.alf_check.specs.Inputs.{KeepInputs}
use Rattle.alf_runs.specs.Starts.{start, AreWithin, words_of}
use Rattle.c_unit.specs.Units.{UnitTree}
use Rattle.c_text.specs.Language.{IsSpelled}
use Rattle.c_rules.specs.Programs.{IsProgram}
use Rattle.c_meaning.specs.Programs.{Cell, outcome}
use Rattle.lowering_values.specs.Frames.{frame_number}
use Rattle.lowering_values.specs.Agreement.{AreCells}
use Rattle.lowering_simulation.specs.Outcomes.{IsSameOutcome}
use Rattle.lowering_simulation.specs.Correct.{IsLowered}
use Rattle.lowering_simulation.specs.Lowering.{HasOutcomeOfCells}
use Rattle.c_lower.specs.Passing.{TextHasFewTokens}

abbrev pub SpelledProgramsAreRight : Type 0
SpelledProgramsAreRight = (unit : UnitTree) (name ranks : List ℕ) (program : NumberedProgram)
    (rows : List InputRow) (words : List ℕ) (cells : List Cell)
    → IsSpelled unit
    → TextHasFewTokens unit
    → IsProgram unit name ranks
    → IsLowered unit name program
    → AreCells unit rows words cells
    → IsSameOutcome program (start program rows words) (frame_number unit) (λ n. outcome unit name n cells)

abbrev pub SpelledStartsAreRight : Type 0
SpelledStartsAreRight = (unit : UnitTree) (name ranks : List ℕ) (program : NumberedProgram) (rows : List InputRow) (numbers : List ℤ)
    → IsSpelled unit
    → TextHasFewTokens unit
    → IsProgram unit name ranks
    → IsLowered unit name program
    → KeepInputs program rows
    → AreWithin rows numbers
    → HasOutcomeOfCells unit name program rows (words_of rows numbers)
