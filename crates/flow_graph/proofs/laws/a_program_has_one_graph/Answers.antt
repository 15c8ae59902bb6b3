use Rattle.flow_graph.proofs.OneGraph.{one_numbering, one_edges, one_graph}
use Rattle.flow_graph.proofs.laws.a_program_has_one_graph.Goals as goal

pub returns-clause-nodes : goal.returns-clause-nodes
returns-clause-nodes c = one_numbering

pub returns-clause-edges : goal.returns-clause-edges
returns-clause-edges c = one_edges

pub returns-clause-graph : goal.returns-clause-graph
returns-clause-graph c = one_graph
