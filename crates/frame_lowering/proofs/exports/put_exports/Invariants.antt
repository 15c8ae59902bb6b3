-- The names so far, with what is left, are all.
use Rattle.std.proofs.Common.{◌≡◌, ◌++◌, map, length}
use Rattle.c_unit.specs.Tree.{declarator_of}
use Rattle.c_meaning.specs.Objects.{integers_declared}
use Rattle.c_lowered.specs.Names.{frame_of}
use Rattle.object_layout.specs.Views.{program_in}
use Rattle.frame_lowering.proofs.exports.put_exports.Given as goal

abbrev pub invariant-declarators : goal.invariant-declarators
invariant-declarators l =
    l.names.items ++ map (frame_of (program_in l.table)) (integers_declared (map declarator_of l.rest))
    ≡ l.initial.names.items ++ map (frame_of (program_in l.table)) (integers_declared (map declarator_of l.declarators))

abbrev pub decreases-declarators : goal.decreases-declarators
decreases-declarators l = length l.rest
