-- What is put, with what is left, is all, and there is room for what is left.
use Rattle.std.proofs.Common.{◌≡◌, ◌≤◌, ◌+◌, ◌++◌, map, length}
use Rattle.c_unit.specs.Limits.{most_functions, most_elements}
use Rattle.c_unit.specs.Tree.{external_of}
use Rattle.c_rules.specs.Units.{definitions}
use Rattle.c_rules.specs.SpelledUnits.{all_elements_of}
use Rattle.c_meaning.specs.Objects.{owned_in}
use Rattle.object_layout.specs.Views.{object_of}
use Rattle.object_layout.proofs.objects.put_owned.Given as goal

abbrev pub invariant-externals : goal.invariant-externals
invariant-externals l =
    (map object_of l.objects.items ++ owned_in l.words l.owner (map external_of l.rest) ≡ map object_of l.initial.objects.items ++ owned_in l.words 0 (map external_of l.externals))
    × (all_elements_of l.words (map external_of l.rest) ≤ most_elements)
    × (l.owner + length (definitions (map external_of l.rest)) ≤ most_functions)

abbrev pub decreases-externals : goal.decreases-externals
decreases-externals l = length l.rest
