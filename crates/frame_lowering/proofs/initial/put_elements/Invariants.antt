-- What is put, with the elements that are left, is all, and offsets stay low.
use Rattle.std.proofs.Common.{◌≡◌, ◌≤◌, ◌+◌, ◌*◌, ◌++◌, map}
use Rattle.alf_program.specs.Tree.{initial_of}
use Rattle.c_lowered.specs.Frames.{element_words}
use Rattle.object_layout.specs.Views.{program_in}
use Rattle.frame_lowering.proofs.initial.put_elements.Given as goal

abbrev pub invariant-elements : goal.invariant-elements
invariant-elements l =
    (map initial_of l.inits.items ++ element_words (program_in l.table) l.name l.kind l.offset l.left l.rest
    ≡ map initial_of l.initial.inits.items ++ element_words (program_in l.table) l.name l.kind 0 l.count l.constants)
    × (l.offset + 4 * l.left ≤ 32768)

abbrev pub decreases-elements : goal.decreases-elements
decreases-elements l = l.left
