use Rattle.std.proofs.Common.{◌-◌, ◌<◌, ◌≤◌, ℕ, length, get_or}
use Rattle.flow_graph.specs.Numbering.{IsBefore}
use Rattle.flow_graph.specs.Places.{node_at, nodes_of}
use Rattle.flow_graph.proofs.place.position.Given as goal

abbrev pub invariant-loop-low : goal.invariant-loop-low
invariant-loop-low l = record {
  low : l.low ≤ l.high;
  within : l.high ≤ length (nodes_of l.places);
  before : (k : ℕ) → k < l.low
      → IsBefore (get_or (nodes_of l.places) k (node_at l.path l.block)) (node_at l.path l.block);
  after : (k : ℕ) → l.high ≤ k → k < length (nodes_of l.places)
      → IsBefore (node_at l.path l.block) (get_or (nodes_of l.places) k (node_at l.path l.block));
}

abbrev pub decreases-loop-low : goal.decreases-loop-low
decreases-loop-low l = l.high - l.low
