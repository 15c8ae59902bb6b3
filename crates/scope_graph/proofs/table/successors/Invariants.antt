-- What the loop of `successors` keeps.
use Rattle.std.proofs.Common.{◌≡◌, ◌<◌, ℕ, [], length, get_or}
use Rattle.scope_graph.specs.Tables.{targets}
use Rattle.graph_walks.specs.Tables.{rows_of}
use Rattle.scope_graph.proofs.table.successors.Given as goal

abbrev pub invariant-loop-node : goal.invariant-loop-node
invariant-loop-node l = record {
  long : length l.table.items ≡ l.node;
  each : (u : ℕ) → u < length l.table.items → get_or (rows_of l.table.items) u [] ≡ targets l.edges u;
}
