-- What is left to show of `assembled`.
use Rattle.std.proofs.Common.{map, length}
use Rattle.graph_walks.specs.Tables.{rows_of}
use Rattle.graph_walks.specs.TableLaws.{rows_long}
use Rattle.domain_core.specs.Reducible.{IsEdge, IsRanking}
use Rattle.scope_graph.specs.Tables.{IsTable}
use Rattle.scope_graph.specs.Placing.{plan_of}
use Rattle.scope_graph.specs.Inner.{lists_of}
use Rattle.scope_graph.specs.Found.{IsFound}
use Rattle.scope_graph.specs.Assembled.{flip, IsOwned, IsParented}
use Rattle.scope_graph.proofs.Parts.{lower, one_more, few_nodes, names_long, within_is, there_of, ranks_long, few_rows, grid_is, some_scope, made_is, made_kept, made_fresh}
use Rattle.scope_graph.proofs.made.assembled.Goals as goal

pub ranks_of-requires-clause-few : goal.ranks_of-requires-clause-few
ranks_of-requires-clause-few c = rw c.node_count-count.ensures (few_nodes c.args.graph.now c.requires.kept)

pub ranks_of-requires-clause-within : goal.ranks_of-requires-clause-within
ranks_of-requires-clause-within c = rw (c.deref.ensures.value, c.requires.edges, c.node_count-count.ensures) (within_is c.args.graph.now c.requires.plan)

pub ranks_of-requires-clause-noted : goal.ranks_of-requires-clause-noted
ranks_of-requires-clause-noted c = rw (c.deref.ensures.value, c.requires.edges) c.requires.noted

pub ranks_of-requires-clause-falling : goal.ranks_of-requires-clause-falling
ranks_of-requires-clause-falling c = rw (c.deref.ensures.value, c.requires.edges) c.requires.falling

pub predecessors-requires-clause-few : goal.predecessors-requires-clause-few
predecessors-requires-clause-few c = rw c.node_count-count.ensures (few_nodes c.args.graph.now c.requires.kept)

pub predecessors-requires-clause-within : goal.predecessors-requires-clause-within
predecessors-requires-clause-within c = rw (c.deref-2.ensures.value, c.requires.edges, c.node_count-count.ensures) (λ u v edge. (within_is c.args.graph.now c.requires.plan u v edge).1)

pub find_scopes-requires-clause-closed : goal.find_scopes-requires-clause-closed
find_scopes-requires-clause-closed c =
    let graph = c.args.graph.now in
    let edges = c.args.edges.items in
    let table = rows_of c.in_ok-into.into.items in
    let tabled : IsTable (map flip edges) (length graph.nodes) table = rw (c.deref-2.ensures.value, c.node_count-count.ensures) at c.in_ok-into.ensures in
    rw c.deref-3.ensures.value (λ u v edge. (within_is graph c.requires.plan v u (there_of graph edges table (length graph.nodes) c.requires.edges tabled u v edge)).0)

pub find_scopes-requires-clause-wide : goal.find_scopes-requires-clause-wide
find_scopes-requires-clause-wide c =
    rw c.deref-3.ensures.value (one_more (length c.args.graph.now.nodes) c.node_count-count.result _ (length c.in_ok-into.into.items) c.node_count-count.ensures c.in_ok-into.ensures.long (rows_long c.in_ok-into.into.items))

pub find_scopes-requires-clause-sources : goal.find_scopes-requires-clause-sources
find_scopes-requires-clause-sources c = λ u h there. (within_is c.args.graph.now c.requires.plan u h (c.requires.noted.backs u h there).0).0

pub node_rows-requires-clause-grid : goal.node_rows-requires-clause-grid
node_rows-requires-clause-grid c =
    let graph = c.args.graph.now in
    let edges = c.args.edges.items in
    let table = rows_of c.in_ok-into.into.items in
    let rows = c.in_ok-found.found.rows.items in
    let holds = lists_of c.in_ok-found.found.holds.items in
    let ranks = c.in_ok-ranks.ranks.items in
    let ranked : IsRanking (IsEdge edges) (length graph.nodes) ranks = rw (c.deref.ensures.value, c.node_count-count.ensures) at c.in_ok-ranks.ensures in
    let tabled : IsTable (map flip edges) (length graph.nodes) table = rw (c.deref-2.ensures.value, c.node_count-count.ensures) at c.in_ok-into.ensures in
    let found : IsFound table c.args.back.now (plan_of graph) (length graph.nodes) rows holds = rw c.deref-3.ensures.value at c.in_ok-found.ensures in
    rw (c.deref-4.ensures.value, c.deref-5.ensures.value, c.deref-6.ensures.value) (grid_is graph c.requires.plan c.args.back.now edges c.requires.edges c.requires.noted ranks table rows holds ranked tabled found)

pub node_rows-requires-clause-few : goal.node_rows-requires-clause-few
node_rows-requires-clause-few c =
    let graph = c.args.graph.now in
    let edges = c.args.edges.items in
    let table = rows_of c.in_ok-into.into.items in
    let rows = c.in_ok-found.found.rows.items in
    let holds = lists_of c.in_ok-found.found.holds.items in
    let ranks = c.in_ok-ranks.ranks.items in
    let ranked : IsRanking (IsEdge edges) (length graph.nodes) ranks = rw (c.deref.ensures.value, c.node_count-count.ensures) at c.in_ok-ranks.ensures in
    let tabled : IsTable (map flip edges) (length graph.nodes) table = rw (c.deref-2.ensures.value, c.node_count-count.ensures) at c.in_ok-into.ensures in
    let found : IsFound table c.args.back.now (plan_of graph) (length graph.nodes) rows holds = rw c.deref-3.ensures.value at c.in_ok-found.ensures in
    rw c.deref-4.ensures.value (lower (length rows) (length graph.nodes) _ (few_rows graph c.requires.plan c.args.back.now edges c.requires.edges c.requires.noted ranks table rows holds ranked tabled found) (few_nodes graph c.requires.kept))

pub node_rows-requires-clause-long : goal.node_rows-requires-clause-long
node_rows-requires-clause-long c =
    let graph = c.args.graph.now in
    let edges = c.args.edges.items in
    let table = rows_of c.in_ok-into.into.items in
    let rows = c.in_ok-found.found.rows.items in
    let holds = lists_of c.in_ok-found.found.holds.items in
    let ranks = c.in_ok-ranks.ranks.items in
    let ranked : IsRanking (IsEdge edges) (length graph.nodes) ranks = rw (c.deref.ensures.value, c.node_count-count.ensures) at c.in_ok-ranks.ensures in
    let tabled : IsTable (map flip edges) (length graph.nodes) table = rw (c.deref-2.ensures.value, c.node_count-count.ensures) at c.in_ok-into.ensures in
    let found : IsFound table c.args.back.now (plan_of graph) (length graph.nodes) rows holds = rw c.deref-3.ensures.value at c.in_ok-found.ensures in
    rw c.deref-6.ensures.value (ranks_long graph c.requires.plan c.args.back.now edges c.requires.edges c.requires.noted ranks table rows holds ranked tabled found)

pub node_rows-requires-clause-named : goal.node_rows-requires-clause-named
node_rows-requires-clause-named c = names_long c.args.graph.now c.requires.kept

pub node_rows-requires-clause-held : goal.node_rows-requires-clause-held
node_rows-requires-clause-held c =
    let graph = c.args.graph.now in
    let edges = c.args.edges.items in
    let table = rows_of c.in_ok-into.into.items in
    let rows = c.in_ok-found.found.rows.items in
    let holds = lists_of c.in_ok-found.found.holds.items in
    let ranks = c.in_ok-ranks.ranks.items in
    let ranked : IsRanking (IsEdge edges) (length graph.nodes) ranks = rw (c.deref.ensures.value, c.node_count-count.ensures) at c.in_ok-ranks.ensures in
    let tabled : IsTable (map flip edges) (length graph.nodes) table = rw (c.deref-2.ensures.value, c.node_count-count.ensures) at c.in_ok-into.ensures in
    let found : IsFound table c.args.back.now (plan_of graph) (length graph.nodes) rows holds = rw c.deref-3.ensures.value at c.in_ok-found.ensures in
    rw (c.deref-4.ensures.value, c.deref-5.ensures.value, c.deref-6.ensures.value) (some_scope graph c.requires.plan c.args.back.now edges c.requires.edges c.requires.noted ranks table rows holds ranked tabled found)

pub with_parents-requires-clause-grid : goal.with_parents-requires-clause-grid
with_parents-requires-clause-grid c =
    let graph = c.args.graph.now in
    let edges = c.args.edges.items in
    let table = rows_of c.in_ok-into.into.items in
    let rows = c.in_ok-found.found.rows.items in
    let holds = lists_of c.in_ok-found.found.holds.items in
    let ranks = c.in_ok-ranks.ranks.items in
    let ranked : IsRanking (IsEdge edges) (length graph.nodes) ranks = rw (c.deref.ensures.value, c.node_count-count.ensures) at c.in_ok-ranks.ensures in
    let tabled : IsTable (map flip edges) (length graph.nodes) table = rw (c.deref-2.ensures.value, c.node_count-count.ensures) at c.in_ok-into.ensures in
    let found : IsFound table c.args.back.now (plan_of graph) (length graph.nodes) rows holds = rw c.deref-3.ensures.value at c.in_ok-found.ensures in
    rw (c.deref-7.ensures.value, c.deref-8.ensures.value, c.deref-9.ensures.value) (grid_is graph c.requires.plan c.args.back.now edges c.requires.edges c.requires.noted ranks table rows holds ranked tabled found)

pub with_parents-requires-clause-few : goal.with_parents-requires-clause-few
with_parents-requires-clause-few c =
    let graph = c.args.graph.now in
    let edges = c.args.edges.items in
    let table = rows_of c.in_ok-into.into.items in
    let rows = c.in_ok-found.found.rows.items in
    let holds = lists_of c.in_ok-found.found.holds.items in
    let ranks = c.in_ok-ranks.ranks.items in
    let ranked : IsRanking (IsEdge edges) (length graph.nodes) ranks = rw (c.deref.ensures.value, c.node_count-count.ensures) at c.in_ok-ranks.ensures in
    let tabled : IsTable (map flip edges) (length graph.nodes) table = rw (c.deref-2.ensures.value, c.node_count-count.ensures) at c.in_ok-into.ensures in
    let found : IsFound table c.args.back.now (plan_of graph) (length graph.nodes) rows holds = rw c.deref-3.ensures.value at c.in_ok-found.ensures in
    rw c.deref-7.ensures.value (lower (length rows) (length graph.nodes) _ (few_rows graph c.requires.plan c.args.back.now edges c.requires.edges c.requires.noted ranks table rows holds ranked tabled found) (few_nodes graph c.requires.kept))

pub new-requires : goal.new-requires
new-requires c =
    let graph = c.args.graph.now in
    let edges = c.args.edges.items in
    let table = rows_of c.in_ok-into.into.items in
    let rows = c.in_ok-found.found.rows.items in
    let holds = lists_of c.in_ok-found.found.holds.items in
    let ranks = c.in_ok-ranks.ranks.items in
    let ranked : IsRanking (IsEdge edges) (length graph.nodes) ranks = rw (c.deref.ensures.value, c.node_count-count.ensures) at c.in_ok-ranks.ensures in
    let tabled : IsTable (map flip edges) (length graph.nodes) table = rw (c.deref-2.ensures.value, c.node_count-count.ensures) at c.in_ok-into.ensures in
    let found : IsFound table c.args.back.now (plan_of graph) (length graph.nodes) rows holds = rw c.deref-3.ensures.value at c.in_ok-found.ensures in
    let nodes = c.in_ok-nodes.nodes.items in
    let scopes = c.in_ok-scopes.scopes.items in
    let owned : IsOwned (length graph.nodes) graph.names rows holds ranks nodes = rw (c.deref-4.ensures.value, c.deref-5.ensures.value, c.deref-6.ensures.value) at c.in_ok-nodes.ensures in
    let parented : IsParented (length rows) rows holds ranks scopes = rw (c.deref-7.ensures.value, c.deref-8.ensures.value, c.deref-9.ensures.value) at c.in_ok-scopes.ensures in
    made_kept graph c.requires.plan c.args.back.now edges c.requires.edges c.requires.noted ranks table rows holds ranked tabled found graph.names scopes nodes parented owned c.requires.kept

pub returns-clause-outline : goal.returns-clause-outline
returns-clause-outline c =
    let graph = c.args.graph.now in
    let edges = c.args.edges.items in
    let table = rows_of c.in_ok-into.into.items in
    let rows = c.in_ok-found.found.rows.items in
    let holds = lists_of c.in_ok-found.found.holds.items in
    let ranks = c.in_ok-ranks.ranks.items in
    let ranked : IsRanking (IsEdge edges) (length graph.nodes) ranks = rw (c.deref.ensures.value, c.node_count-count.ensures) at c.in_ok-ranks.ensures in
    let tabled : IsTable (map flip edges) (length graph.nodes) table = rw (c.deref-2.ensures.value, c.node_count-count.ensures) at c.in_ok-into.ensures in
    let found : IsFound table c.args.back.now (plan_of graph) (length graph.nodes) rows holds = rw c.deref-3.ensures.value at c.in_ok-found.ensures in
    let nodes = c.in_ok-nodes.nodes.items in
    let scopes = c.in_ok-scopes.scopes.items in
    let owned : IsOwned (length graph.nodes) graph.names rows holds ranks nodes = rw (c.deref-4.ensures.value, c.deref-5.ensures.value, c.deref-6.ensures.value) at c.in_ok-nodes.ensures in
    let parented : IsParented (length rows) rows holds ranks scopes = rw (c.deref-7.ensures.value, c.deref-8.ensures.value, c.deref-9.ensures.value) at c.in_ok-scopes.ensures in
    rw c.new.ensures (made_is graph c.requires.plan c.args.back.now edges c.requires.edges c.requires.noted ranks table rows holds ranked tabled found graph.names scopes nodes parented owned)

pub returns-clause-fresh : goal.returns-clause-fresh
returns-clause-fresh c =
    let graph = c.args.graph.now in
    let edges = c.args.edges.items in
    let table = rows_of c.in_ok-into.into.items in
    let rows = c.in_ok-found.found.rows.items in
    let holds = lists_of c.in_ok-found.found.holds.items in
    let ranks = c.in_ok-ranks.ranks.items in
    let ranked : IsRanking (IsEdge edges) (length graph.nodes) ranks = rw (c.deref.ensures.value, c.node_count-count.ensures) at c.in_ok-ranks.ensures in
    let tabled : IsTable (map flip edges) (length graph.nodes) table = rw (c.deref-2.ensures.value, c.node_count-count.ensures) at c.in_ok-into.ensures in
    let found : IsFound table c.args.back.now (plan_of graph) (length graph.nodes) rows holds = rw c.deref-3.ensures.value at c.in_ok-found.ensures in
    let nodes = c.in_ok-nodes.nodes.items in
    let scopes = c.in_ok-scopes.scopes.items in
    let owned : IsOwned (length graph.nodes) graph.names rows holds ranks nodes = rw (c.deref-4.ensures.value, c.deref-5.ensures.value, c.deref-6.ensures.value) at c.in_ok-nodes.ensures in
    let parented : IsParented (length rows) rows holds ranks scopes = rw (c.deref-7.ensures.value, c.deref-8.ensures.value, c.deref-9.ensures.value) at c.in_ok-scopes.ensures in
    rw c.new.ensures (made_fresh graph c.requires.plan c.args.back.now edges c.requires.edges c.requires.noted ranks table rows holds ranked tabled found graph.names scopes nodes parented owned (names_long graph c.requires.kept))
