use Rattle.program_machines.proofs.RankingLaws.{one_ranking, one_shape}
use Rattle.program_machines.proofs.laws.a_graph_has_one_ranking.Goals as goal

pub returns : goal.returns
returns c = record {
  ranks = one_ranking c.graphs_are_expansions.ensures;
  shape = one_shape c.graphs_are_expansions.ensures c.a_graph_has_one_outline.ensures;
}
