use Rattle.std.proofs.Common.{arith}
use Rattle.std.proofs.lemmas.Option.{slice_get_within}
use Rattle.flow_graph.specs.Nodes.{function_at}
use Rattle.flow_graph.proofs.EdgeLemmas.{first_of, first_function}
use Rattle.flow_graph.proofs.node_edges.next_func.Goals as goal

pub returns-then-edge-edge_count : goal.returns-then-edge-edge_count
returns-then-edge-edge_count c = λ program goal is h.
    c.func_of.ensures (function_at program goal.path) (first_function program c.args.graph.now is c.args.firsts.now c.requires.firsts c.args.node goal h c.edge.result c.edge.ensures)

pub returns-else-edge-edge_count : goal.returns-else-edge-edge_count
returns-else-edge-edge_count c = λ program goal is h.
    let first = first_of c.args.graph.now c.args.firsts.now c.requires.firsts c.args.node goal h in
    let low = slice_get_within c.args.graph.now.edges _ _ first.at in
    absurd (omega arith)
