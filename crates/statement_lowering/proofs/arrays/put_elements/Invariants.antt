-- What is put, with the elements that are left, is all, and offsets stay low.
use Rattle.std.proofs.Common.{◌≡◌, ◌≤◌, ◌+◌, ◌*◌, ◌++◌, List, map}
use Rattle.alf_program.specs.Tree.{BodyItem, item_of}
use Rattle.c_lowered.specs.Effects.{element_items}
use Rattle.object_layout.specs.Views.{program_in}
use Rattle.statement_lowering.proofs.arrays.put_elements.Given as goal

abbrev pub invariant-elements : goal.invariant-elements
invariant-elements l =
    ((rest : List BodyItem) → map item_of l.items.items ++ element_items (program_in l.code.table.now) l.name l.kind l.offset l.left l.rest rest
    ≡ map item_of l.initial.items.items ++ element_items (program_in l.code.table.now) l.name l.kind 0 l.count l.constants rest)
    × (l.offset + 4 * l.left ≤ 32768)

abbrev pub decreases-elements : goal.decreases-elements
decreases-elements l = l.left
