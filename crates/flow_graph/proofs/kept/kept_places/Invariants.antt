use Rattle.std.proofs.Common.{◌+◌, ◌*◌, ◌-◌, length}
use Rattle.alf_check.specs.CheckedPrograms.{seen}
use Rattle.flow_graph.specs.Places.{nodes_of}
use Rattle.flow_graph.specs.Growing.{IsSearched}
use Rattle.flow_graph.proofs.kept.kept_places.Given as goal

abbrev pub invariant-loop-place : goal.invariant-loop-place
invariant-loop-place l = IsSearched (seen l.checked) (nodes_of l.places.items) (nodes_of l.pending.items)

abbrev pub decreases-loop-place : goal.decreases-loop-place
decreases-loop-place l = 2 * (512 - length (nodes_of l.places.items)) + length (nodes_of l.pending.items)
