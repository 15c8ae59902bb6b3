-- Lowered programs have the outcome of the unit.
--   IsLowered unit name program   the checked program is what the unit is lowered to, with the root of this name
--   FramesArePlaced unit program  its frames lie where the objects of the unit have them
--   UnitIsPlain unit         in each function `&&` and `||` stand in conditions alone, and labels can be told apart
--   LoweredProgramsHaveTheUnitsOutcome   so such a program has the outcome of the unit for each input
use Rattle.std.specs.Prelude.{◌≡◌, ◌<◌, ◌≤◌, ◌^◌, ℕ, List, length}
use Rattle.alf_check.specs.declared.rows.InputRow.{InputRow}
use Rattle.alf_check.specs.CheckedPrograms.{NumberedProgram}
use Rattle.alf_check.specs.Kept.{IsKept}
use Rattle.alf_runs.specs.Starts.{start}
use Rattle.item_runs.specs.CheckedItems.{numbers_of}
use Rattle.c_unit.specs.Units.{UnitTree}
use Rattle.c_rules.specs.Programs.{IsProgram}
use Rattle.c_meaning.specs.Objects.{program_of, function_at}
use Rattle.c_meaning.specs.Programs.{Cell, outcome}
use Rattle.c_lowered.specs.Statements.{labels_in_all}
use Rattle.c_lowered.specs.Programs.{lowered}
use Rattle.lowering_layout.specs.Spelled.{HasNames}
use Rattle.lowering_values.specs.Frames.{frame_number, FramesStand, IsNaming}
use Rattle.lowering_values.specs.Agreement.{IsLaidOut, AreCells}
use Rattle.lowering_simulation.specs.Outcomes.{IsSameOutcome}
use Rattle.lowering_simulation.specs.Plain.{StatementsArePlain}

-- the checked program is what the unit is lowered to
pub record IsLowered (unit : UnitTree) (name : List ℕ) (program : NumberedProgram) : Type 0 where
  pub kept : IsKept program
  pub whole : kept.checked.whole ≡ lowered unit
  pub root : kept.checked.root ≡ name

-- its frames lie where the objects of the unit have them
pub record FramesArePlaced (unit : UnitTree) (program : NumberedProgram) : Type 0 where
  pub frames : FramesStand unit
  pub naming : (f : ℕ) → f < length (program_of unit).functions → IsNaming unit f (numbers_of (lowered unit) f).frame
  pub laid : IsLaidOut unit program

-- `&&` and `||` stand in conditions alone, and a function has no more labels than names tell apart
pub record UnitIsPlain (unit : UnitTree) : Type 0 where
  pub plain : (f : ℕ) → f < length (program_of unit).functions
      → StatementsArePlain (function_at (program_of unit) f).body
  pub few_labels : (f : ℕ) → labels_in_all (function_at (program_of unit) f).body ≤ 2 ^ 64

abbrev pub LoweredProgramsHaveTheUnitsOutcome : Type 0
LoweredProgramsHaveTheUnitsOutcome = (unit : UnitTree) (name ranks : List ℕ) (program : NumberedProgram) (rows : List InputRow) (words : List ℕ) (cells : List Cell)
    → IsProgram unit name ranks
    → HasNames (program_of unit)
    → UnitIsPlain unit
    → IsLowered unit name program
    → FramesArePlaced unit program
    → AreCells unit rows words cells
    → IsSameOutcome program (start program rows words) (frame_number unit) (λ n. outcome unit name n cells)
