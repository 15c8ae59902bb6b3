-- What the loop of `mark_body` keeps.
use Rattle.graph_walks.specs.Tables.{rows_of}
use Rattle.scope_graph.proofs.BodyMarks.{IsMarking}
use Rattle.scope_graph.proofs.body.mark_body.Given as goal

abbrev pub invariant-loop-edge : goal.invariant-loop-edge
invariant-loop-edge l = IsMarking (rows_of l.table) l.back l.header l.seen l.edge-index
