-- What is noted, with what is left, is all.
use Rattle.std.proofs.Common.{◌≡◌, ◌++◌, map, length}
use Rattle.c_unit.specs.Tree.{external_of}
use Rattle.object_layout.specs.Views.{signature_of, signatures_of}
use Rattle.object_layout.proofs.signature.signatures.Given as goal

abbrev pub invariant-externals : goal.invariant-externals
invariant-externals l = map signature_of l.all.items ++ signatures_of (map external_of l.rest) ≡ signatures_of (map external_of l.externals)

abbrev pub decreases-externals : goal.decreases-externals
decreases-externals l = length l.rest
