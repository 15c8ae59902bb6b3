use Rattle.flow_graph.proofs.GraphNames.{apart, spelled}
use Rattle.flow_graph.proofs.laws.names_tell_nodes_apart.Goals as goal

pub returns-clause-apart : goal.returns-clause-apart
returns-clause-apart c = apart

pub returns-clause-spelled : goal.returns-clause-spelled
returns-clause-spelled c = spelled
