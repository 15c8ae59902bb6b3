-- What the loop of `edges_of` keeps.
use Rattle.std.proofs.Common.{◌≡◌, take}
use Rattle.scope_graph.proofs.made.edges_of.Given as goal

abbrev pub invariant-loop-e : goal.invariant-loop-e
invariant-loop-e l = l.edges.items ≡ take l.e l.graph.edges
