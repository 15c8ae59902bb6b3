-- What is left to show of `look_back`.
use Rattle.graph_walks.specs.Tables.{rows_of}
use Rattle.scope_graph.specs.Tables.{IsAround}
use Rattle.scope_graph.proofs.Descents.{crossing_cut}
use Rattle.scope_graph.proofs.descend.look_back.Goals as goal

pub returns-in_ok-crossing_at-in-Some-2 : goal.returns-in_ok-crossing_at-in-Some-2
returns-in_ok-crossing_at-in-Some-2 c =
    let round : IsAround (rows_of c.args.table.now) c.args.node c.args.next c.in-Some-2.around.items = rw c.in-Some-2.is at c.in_ok-walk_around.ensures in
    let around = c.in_ok-crossing_at-in-Some-2.ensures.around in
    let at = c.in-Some.ensures in
    rw around (crossing_cut (rows_of c.args.table.now) c.args.path.now _ _ c.in-Some-2.around.items c.args.node c.args.next c.in-Some.at c.requires.walk c.requires.once c.requires.edge at.0 at.1 round
    c.in_ok-crossing_at-in-Some-2.ensures.header c.in_ok-crossing_at-in-Some-2.ensures.tail)
