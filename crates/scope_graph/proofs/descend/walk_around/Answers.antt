-- What is left to show of `walk_around`.
use Rattle.std.proofs.Common.{◌≡◌, ◌<◌, false, true, length, set, replicate, arith}
use Rattle.std.proofs.lemmas.Grind.{common_steps}
use Rattle.graph_walks.specs.Tables.{HasEdge, rows_of}
use Rattle.graph_walks.specs.TableLaws.{rows_long}
use Rattle.graph_walks.specs.MarkedNodes.{IsBarred, IsPathPast}
use Rattle.scope_graph.proofs.Descents.{around_none, around_found}
use Rattle.scope_graph.proofs.descend.walk_around.Goals as goal

pub returns-in-None : goal.returns-in-None
returns-in-None c =
    let rows = rows_of c.args.table.now in
    let long : length rows ≡ length c.args.table.now = rows_long c.args.table.now in
    let is : c.deref.result.now ≡ set (replicate (length rows) false) c.args.without true = rw long (grind (arith, common_steps)) in
    let inside : c.args.without < length rows = (let low = c.requires.inside in omega arith) in
    let bars : IsBarred (HasEdge rows) c.deref.result.now 0 c.args.to = rw c.in-None.is at c.in_ok-find_walk.ensures.none in
    around_none rows c.args.to c.args.without inside c.deref.result.now is bars

pub returns : goal.returns
returns c =
    let rows = rows_of c.args.table.now in
    let long : length rows ≡ length c.args.table.now = rows_long c.args.table.now in
    let is : c.deref.result.now ≡ set (replicate (length rows) false) c.args.without true = rw long (grind (arith, common_steps)) in
    let inside : c.args.without < length rows = (let low = c.requires.inside in omega arith) in
    let past : IsPathPast (HasEdge rows) c.deref.result.now 0 c.args.to c.in-Some.walk.items = rw c.in-Some.is at c.in_ok-find_walk.ensures.walk in
    around_found rows c.args.to c.args.without inside c.deref.result.now is c.in-Some.walk.items past
