-- What the loop over the nodes keeps.
use Rattle.std.proofs.Common.{◌≡◌, map, take}
use Rattle.alf_check.specs.CheckedPrograms.{seen}
use Rattle.code_layout.specs.Layouts.{node_part}
use Rattle.code_layout.proofs.places.parts.Given as goal

abbrev pub invariant-loop-n : goal.invariant-loop-n
invariant-loop-n l = l.parts.items ≡ map (node_part (seen l.checked)) (take l.n l.graph.nodes)
