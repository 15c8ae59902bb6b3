-- Programs of ALF that do what a unit of C does.
--   HasUnitsOutcomeFrom unit root program rows numbers   the run from these numbers has the outcome of the unit from the cells that hold them
--   HasUnitsOutcomes unit root program   so has the run from each list of numbers inside the ranges of input rows
--   HaveUnitsOutcomes unit root          so has each checked program to which the unit is lowered
use Rattle.std.specs.Prelude.{ℕ, ℤ, List}
use Rattle.alf_check.specs.declared.rows.InputRow.{InputRow}
use Rattle.alf_check.specs.CheckedPrograms.{NumberedProgram}
use Rattle.alf_check.specs.Inputs.{KeepInputs}
use Rattle.alf_runs.specs.Starts.{AreWithin, words_of}
use Rattle.c_unit.specs.Units.{UnitTree}
use Rattle.lowering_simulation.specs.Correct.{IsLowered}
use Rattle.lowering_simulation.specs.Lowering.{HasOutcomeOfCells}

-- the run from these numbers has the outcome of the unit from the cells that hold the words of these numbers, which no
-- other cells do: a fault where the unit has that fault, and no end where the unit has none
abbrev pub HasUnitsOutcomeFrom : UnitTree → List ℕ → NumberedProgram → List InputRow → List ℤ → Type 0
HasUnitsOutcomeFrom unit root program rows numbers = HasOutcomeOfCells unit root program rows (words_of rows numbers)

-- so it is of each list of numbers inside the ranges of input rows
abbrev pub HasUnitsOutcomes : UnitTree → List ℕ → NumberedProgram → Type 0
HasUnitsOutcomes unit root program = (rows : List InputRow) (numbers : List ℤ) → KeepInputs program rows → AreWithin rows numbers → HasUnitsOutcomeFrom unit root program rows numbers

-- so has each checked program to which the unit is lowered
abbrev pub HaveUnitsOutcomes : UnitTree → List ℕ → Type 0
HaveUnitsOutcomes unit root = (program : NumberedProgram) → IsLowered unit root program → HasUnitsOutcomes unit root program
