-- What is left to show of `back_edges`.
use Rattle.std.proofs.Common.{arith}
use Rattle.domain_core.specs.Reducible.{IsEdge}
use Rattle.domain_core.specs.ReducibleLaws.{falling_reducible, crossing_same}
use Rattle.scope_graph.specs.declared.descend.Descent.TheVariants.{Back, Crosses}
use Rattle.graph_walks.specs.Tables.{HasEdge, rows_of}
use Rattle.scope_graph.specs.Tables.{IsTable}
use Rattle.scope_graph.specs.Descending.{IsDescentAnswer}
use Rattle.scope_graph.proofs.Transfer.{table_closed, table_reached, back_same, edges_fall}
use Rattle.scope_graph.proofs.reduce.back_edges.Goals as goal

pub successors-requires-clause-within : goal.successors-requires-clause-within
successors-requires-clause-within c = λ u v edge. let low = (c.requires.within u v edge).0 in omega arith

pub depth_first-requires-clause-closed : goal.depth_first-requires-clause-closed
depth_first-requires-clause-closed c = rw c.deref.ensures.value (table_closed c.args.edges.now c.args.count (rows_of c.in-Ok.table.items) c.in-Ok.ensures c.requires.within)

pub depth_first-requires-clause-reached : goal.depth_first-requires-clause-reached
depth_first-requires-clause-reached c =
    rw c.deref.ensures.value (table_reached c.args.edges.now c.args.count (rows_of c.in-Ok.table.items) c.in-Ok.ensures c.requires.within c.requires.reached)

pub returns-in-Ok-Back-clause-reducible : goal.returns-in-Ok-Back-clause-reducible
returns-in-Ok-Back-clause-reducible c =
    let table = rows_of c.deref.result.now in
    let t : IsTable c.args.edges.now c.args.count table = rw c.deref.ensures.value c.in-Ok.ensures in
    let shown : IsDescentAnswer table (Back c.in-Ok-Back.back) = rw c.in-Ok-Back.field-0-is at c.in-Ok-Back.ensures in
    falling_reducible (IsEdge c.args.edges.now) shown.1.0 (edges_fall c.args.edges.now c.args.count table t shown.1.0 shown.1.1)

pub returns-in-Ok-Back-clause-noted : goal.returns-in-Ok-Back-clause-noted
returns-in-Ok-Back-clause-noted c =
    let table = rows_of c.deref.result.now in
    let t : IsTable c.args.edges.now c.args.count table = rw c.deref.ensures.value c.in-Ok.ensures in
    let shown : IsDescentAnswer table (Back c.in-Ok-Back.back) = rw c.in-Ok-Back.field-0-is at c.in-Ok-Back.ensures in
    back_same c.args.edges.now c.args.count table t c.in-Ok-Back.back.items shown.0

pub returns-in-Ok-Back-clause-falling : goal.returns-in-Ok-Back-clause-falling
returns-in-Ok-Back-clause-falling c =
    let table = rows_of c.deref.result.now in
    let t : IsTable c.args.edges.now c.args.count table = rw c.deref.ensures.value c.in-Ok.ensures in
    let shown : IsDescentAnswer table (Back c.in-Ok-Back.back) = rw c.in-Ok-Back.field-0-is at c.in-Ok-Back.ensures in
    (shown.1.0, edges_fall c.args.edges.now c.args.count table t shown.1.0 shown.1.1)

pub returns-clause-crossing : goal.returns-clause-crossing
returns-clause-crossing c =
    let table = rows_of c.deref.result.now in
    let t : IsTable c.args.edges.now c.args.count table = rw c.deref.ensures.value c.in-Ok.ensures in
    let shown : IsDescentAnswer table (Crosses c.in-Ok-Crosses.field-0-0) = rw c.in-Ok-Crosses.field-0-is at c.in-Ok-Crosses.ensures in
    crossing_same (HasEdge table) (IsEdge c.args.edges.now) t.there c.in-Ok-Crosses.field-0-0.to_header.items c.in-Ok-Crosses.field-0-0.to_tail.items c.in-Ok-Crosses.field-0-0.around.items shown
