-- Units that are counted.
--   CountedUnitsHaveSpelledNames   the names of a counted unit whose checks pass are spelled
--   calls_of_all program fs        how many calls of functions that give something stand in the blocks of functions
--   CountedUnitsHaveFewFrames      with its objects they are no more than a program may have frames
use Rattle.std.specs.Prelude.{◌≤◌, ◌+◌, ℕ, List, [], ◌∷◌, length}
use Rattle.alf_program.specs.Writable.{most_frames}
use Rattle.c_unit.specs.Units.{UnitTree}
use Rattle.c_rules.specs.UnitsStand.{UnitStands}
use Rattle.c_meaning.specs.Objects.{Function, Program, program_of, objects_of, functions_of}
use Rattle.c_lowered.specs.Statements.{calls_in_all}
use Rattle.lowering_layout.specs.Texts.{IsIdentifier}
use Rattle.lowering_layout.specs.Spelled.{NamesAreSpelled}
use Rattle.c_rules.specs.SpelledUnits.{IsCounted}

abbrev pub CountedUnitsHaveSpelledNames : Type 0
CountedUnitsHaveSpelledNames = (unit : UnitTree) → IsCounted IsIdentifier unit → UnitStands unit → NamesAreSpelled unit

abbrev pub calls_of_all : Program → List Function → ℕ
calls_of_all program [] = 0
calls_of_all program (f ∷ fs) = calls_in_all program f.body + calls_of_all program fs

abbrev pub CountedUnitsHaveFewFrames : Type 0
CountedUnitsHaveFewFrames = (unit : UnitTree) → IsCounted IsIdentifier unit → UnitStands unit → length (objects_of unit) + calls_of_all (program_of unit) (functions_of unit) ≤ most_frames
