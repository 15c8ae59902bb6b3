use Rattle.std.proofs.Common.{◌≡◌, ◌≤◌, ℕ, Some, length, slice_get}
use Rattle.flow_graph.specs.Edges.{IsEdgeUpTo}
use Rattle.flow_graph.proofs.node_edges.first_edges.Given as goal

abbrev pub invariant-loop-edge : goal.invariant-loop-edge
invariant-loop-edge l = record {
  within : l.edge ≤ length l.graph.edges;
  long : length l.firsts.items ≡ length l.graph.nodes;
  each : (e u v : ℕ) → l.edge ≤ e → slice_get l.graph.edges e ≡ Some (u, v)
      → (first : ℕ) × (slice_get l.firsts.items u ≡ Some first) × IsEdgeUpTo l.graph.edges u e first;
}

abbrev pub decreases-loop-edge : goal.decreases-loop-edge
decreases-loop-edge l = l.edge
