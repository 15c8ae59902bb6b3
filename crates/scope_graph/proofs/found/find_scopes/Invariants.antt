-- What the loop of `find_scopes` keeps.
use Rattle.graph_walks.specs.Tables.{rows_of}
use Rattle.scope_graph.specs.Placing.{plan_of}
use Rattle.scope_graph.specs.Inner.{lists_of}
use Rattle.scope_graph.specs.Found.{IsFound}
use Rattle.scope_graph.proofs.found.find_scopes.Given as goal

abbrev pub invariant-loop-node : goal.invariant-loop-node
invariant-loop-node l = IsFound (rows_of l.table) l.back (plan_of l.graph) l.node l.rows.items (lists_of l.holds.items)
