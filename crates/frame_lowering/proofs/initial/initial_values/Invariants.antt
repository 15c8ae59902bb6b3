-- What is put, with what is left, is all, and there is room for what is left.
use Rattle.std.proofs.Common.{◌≡◌, ◌≤◌, ◌++◌, map, length}
use Rattle.alf_program.specs.Tree.{initial_of}
use Rattle.c_unit.specs.Limits.{most_elements}
use Rattle.c_unit.specs.Tree.{external_of}
use Rattle.c_unit.specs.Units.{unit_of}
use Rattle.c_rules.specs.SpelledUnits.{all_elements_of}
use Rattle.c_lowered.specs.Frames.{first_words}
use Rattle.object_layout.specs.Views.{program_in}
use Rattle.frame_lowering.proofs.initial.initial_values.Given as goal

abbrev pub invariant-externals : goal.invariant-externals
invariant-externals l =
    (map initial_of l.inits.items ++ first_words (program_in l.table) (map external_of l.rest) ≡ first_words (program_in l.table) (map external_of l.externals))
    × (all_elements_of (unit_of l.table).words (map external_of l.rest) ≤ most_elements)

abbrev pub decreases-externals : goal.decreases-externals
decreases-externals l = length l.rest
