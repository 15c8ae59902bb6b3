-- What the loop of `node_rows` keeps.
use Rattle.scope_graph.specs.Inner.{lists_of}
use Rattle.scope_graph.specs.Assembled.{IsOwned}
use Rattle.scope_graph.proofs.rows.node_rows.Given as goal

abbrev pub invariant-loop-n : goal.invariant-loop-n
invariant-loop-n l = IsOwned l.n l.graph.names l.rows (lists_of l.holds) l.ranks l.nodes.items
