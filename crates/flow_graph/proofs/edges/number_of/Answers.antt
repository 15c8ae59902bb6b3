use Rattle.flow_graph.specs.Places.{node_at, nodes_of}
use Rattle.flow_graph.proofs.Growing.{not_member}
use Rattle.flow_graph.proofs.edges.number_of.Goals as goal

pub unreachable-requires : goal.unreachable-requires
unreachable-requires c = not_member (nodes_of c.args.places.now) (node_at c.args.path.now c.args.block) c.in-Err.field-0 c.in-Err.ensures.missing c.requires.there
