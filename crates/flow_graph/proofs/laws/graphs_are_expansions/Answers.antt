use Rattle.flow_graph.proofs.Expanding.{expanded}
use Rattle.flow_graph.proofs.laws.graphs_are_expansions.Goals as goal

pub returns : goal.returns
returns c = λ program graph keeps is. expanded program keeps graph is
