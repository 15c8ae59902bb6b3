use Rattle.alf_check.specs.CheckedPrograms.{seen}
use Rattle.flow_graph.specs.Places.{nodes_of}
use Rattle.flow_graph.specs.Listing.{IsListed}
use Rattle.flow_graph.proofs.Listing.{IsDoneInRow}
use Rattle.flow_graph.proofs.edges.add_edges.Given as goal

abbrev pub invariant-loop-block : goal.invariant-loop-block
invariant-loop-block l = IsListed (IsDoneInRow (seen l.checked) (nodes_of l.places) l.from l.path l.block-items l.block-index) l.edges.items
