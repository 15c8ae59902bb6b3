-- The functions so far, with those that are left, are all, and there is room for what is left.
use Rattle.std.proofs.Common.{◌≤◌, ◌+◌, map, length}
use Rattle.c_unit.specs.Limits.{most_functions, most_elements}
use Rattle.c_unit.specs.Tree.{external_of}
use Rattle.c_unit.specs.Units.{unit_of}
use Rattle.c_rules.specs.Units.{definitions}
use Rattle.c_rules.specs.SpelledUnits.{all_elements_of}
use Rattle.object_layout.specs.Views.{program_in}
use Rattle.c_lower.specs.Walk.{HaveFewNumbers}
use Rattle.c_lower.proofs.Walking.{IsWalk}
use Rattle.c_lower.proofs.functions.lowered_functions.Given as goal

abbrev pub invariant-externals : goal.invariant-externals
invariant-externals l =
    IsWalk (unit_of l.unit).words (program_in l.unit) l.scopes l.funcs.items l.function (map external_of l.rest)
    × (all_elements_of (unit_of l.unit).words (map external_of l.rest) ≤ most_elements)
    × HaveFewNumbers (program_in l.unit) (map external_of l.rest)
    × (l.function + length (definitions (map external_of l.rest)) ≤ most_functions)

abbrev pub decreases-externals : goal.decreases-externals
decreases-externals l = length l.rest
