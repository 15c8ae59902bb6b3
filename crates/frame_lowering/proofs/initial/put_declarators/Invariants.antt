-- What is put, with what is left, is all, and there is room for what is left.
use Rattle.std.proofs.Common.{◌≡◌, ◌≤◌, ◌++◌, map, length}
use Rattle.alf_program.specs.Tree.{initial_of}
use Rattle.c_unit.specs.Limits.{most_elements}
use Rattle.c_unit.specs.Tree.{declarator_of}
use Rattle.c_unit.specs.Units.{unit_of}
use Rattle.c_rules.specs.SpelledUnits.{elements_of_declarators}
use Rattle.c_lowered.specs.Frames.{declarators_words}
use Rattle.object_layout.specs.Views.{program_in}
use Rattle.frame_lowering.proofs.initial.put_declarators.Given as goal

abbrev pub invariant-declarators : goal.invariant-declarators
invariant-declarators l =
    (map initial_of l.inits.items ++ declarators_words (program_in l.table) l.kind (map declarator_of l.rest)
    ≡ map initial_of l.initial.inits.items ++ declarators_words (program_in l.table) l.kind (map declarator_of l.declarators))
    × (elements_of_declarators (unit_of l.table).words (map declarator_of l.rest) ≤ most_elements)

abbrev pub decreases-declarators : goal.decreases-declarators
decreases-declarators l = length l.rest
