-- The names so far, with what is left, are all.
use Rattle.std.proofs.Common.{◌≡◌, ◌++◌, map, length}
use Rattle.c_unit.specs.Tree.{external_of}
use Rattle.c_meaning.specs.Objects.{integers_in}
use Rattle.c_lowered.specs.Names.{frame_of}
use Rattle.object_layout.specs.Views.{program_in}
use Rattle.frame_lowering.proofs.exports.exports_of.Given as goal

abbrev pub invariant-externals : goal.invariant-externals
invariant-externals l =
    l.names.items ++ map (frame_of (program_in l.table)) (integers_in (map external_of l.rest)) ≡ map (frame_of (program_in l.table)) (integers_in (map external_of l.externals))

abbrev pub decreases-externals : goal.decreases-externals
decreases-externals l = length l.rest
