use Rattle.alf_check.specs.CheckedPrograms.{seen}
use Rattle.flow_graph.specs.Places.{nodes_of}
use Rattle.flow_graph.specs.Listing.{IsListed, IsDoneBefore}
use Rattle.flow_graph.proofs.edges.edges_between.Given as goal

abbrev pub invariant-loop-from : goal.invariant-loop-from
invariant-loop-from l = IsListed (IsDoneBefore (seen l.checked) (nodes_of l.places) l.from) l.edges.items
