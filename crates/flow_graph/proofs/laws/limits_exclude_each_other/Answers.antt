use Rattle.flow_graph.proofs.OneGraph.{not_more_nodes, not_more_edges, not_both}
use Rattle.flow_graph.proofs.laws.limits_exclude_each_other.Goals as goal

pub returns-clause-nodes : goal.returns-clause-nodes
returns-clause-nodes c = not_more_nodes

pub returns-clause-edges : goal.returns-clause-edges
returns-clause-edges c = not_more_edges

pub returns-clause-either : goal.returns-clause-either
returns-clause-either c = not_both
