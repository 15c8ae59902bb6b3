-- Each checked program to which a unit is lowered has the outcome of the unit.
--   HasOutcomeOfCells      the run from these words of the input rows and the unit from the cells that hold them, and no other cells do, come to one outcome
--   LoweringIsRight        the law for cells of the unit: faults included, in as many turns as steps
--   EachStartIsOfTheUnit   the law for each list of numbers inside the ranges of the program's input rows: cells of the unit hold their words
use Rattle.std.specs.Prelude.{◌≡◌, ℕ, ℤ, List}
use Rattle.alf_check.specs.declared.rows.InputRow.{InputRow}
use Rattle.alf_check.specs.CheckedPrograms.{NumberedProgram}
use Rattle.alf_check.specs.Inputs.{KeepInputs}
use Rattle.alf_runs.specs.Starts.{start, AreWithin, words_of}
use Rattle.c_unit.specs.Units.{UnitTree}
use Rattle.c_rules.specs.Programs.{IsProgram}
use Rattle.c_meaning.specs.Programs.{Cell, outcome}
use Rattle.lowering_layout.specs.Spelled.{NamesAreSpelled}
use Rattle.lowering_values.specs.Frames.{frame_number}
use Rattle.lowering_values.specs.Agreement.{AreCells}
use Rattle.lowering_simulation.specs.Outcomes.{IsSameOutcome}
use Rattle.lowering_simulation.specs.Correct.{IsLowered, UnitIsPlain}

-- a pointer to an object is one to its frame
abbrev pub LoweringIsRight : Type 0
LoweringIsRight = (unit : UnitTree) (name ranks : List ℕ) (program : NumberedProgram)
    (rows : List InputRow) (words : List ℕ) (cells : List Cell)
    → IsProgram unit name ranks
    → NamesAreSpelled unit
    → UnitIsPlain unit
    → IsLowered unit name program
    → AreCells unit rows words cells
    → IsSameOutcome program (start program rows words) (frame_number unit) (λ n. outcome unit name n cells)

-- the run that starts with these words of the input rows and the unit from the cells that hold these words come to one
-- outcome; these are the only such cells, so that no other input has a part in it
pub record HasOutcomeOfCells (unit : UnitTree) (name : List ℕ) (program : NumberedProgram) (rows : List InputRow)
    (words : List ℕ) : Type 0 where
  pub cells : List Cell
  pub hold : AreCells unit rows words cells
  pub only : (others : List Cell) → AreCells unit rows words others → others ≡ cells
  pub outcomes : IsSameOutcome program (start program rows words) (frame_number unit) (λ n. outcome unit name n cells)

-- so it is with the words of each list of numbers inside the ranges of the rows
abbrev pub EachStartIsOfTheUnit : Type 0
EachStartIsOfTheUnit = (unit : UnitTree) (name ranks : List ℕ) (program : NumberedProgram) (rows : List InputRow) (numbers : List ℤ)
    → IsProgram unit name ranks
    → NamesAreSpelled unit
    → UnitIsPlain unit
    → IsLowered unit name program
    → KeepInputs program rows
    → AreWithin rows numbers
    → HasOutcomeOfCells unit name program rows (words_of rows numbers)
