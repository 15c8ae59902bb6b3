-- Units whose objects have room.
--   HasRoom unit   the elements of its arrays and the functions that it defines are within the limits of a text, so that 32 bits have each size and each number
use Rattle.std.specs.Prelude.{◌≤◌, length}
use Rattle.c_unit.specs.Limits.{most_functions, most_elements}
use Rattle.c_unit.specs.Units.{UnitTree}
use Rattle.c_rules.specs.Units.{definitions}
use Rattle.c_rules.specs.SpelledUnits.{all_elements_of}

pub record HasRoom (unit : UnitTree) : Type 0 where
  pub elements : all_elements_of unit.words unit.externals ≤ most_elements
  pub functions : length (definitions unit.externals) ≤ most_functions
