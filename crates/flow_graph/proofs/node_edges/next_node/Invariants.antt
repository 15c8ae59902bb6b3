use Rattle.std.proofs.Common.{◌≡◌}
use Rattle.flow_graph.specs.Nodes.{Node}
use Rattle.flow_graph.specs.Edges.{HasEdge, HasEdgeFrom}
use Rattle.flow_graph.proofs.node_edges.next_node.Given as goal

abbrev pub invariant-loop-edge : goal.invariant-loop-edge
invariant-loop-edge l = (goal : Node) → HasEdge l.graph l.node goal → goal.block ≡ l.block → HasEdgeFrom l.graph l.node goal l.edge
