-- What the loop of `give_ranks` keeps.
use Rattle.graph_walks.specs.Tables.{rows_of}
use Rattle.scope_graph.specs.Ranking.{Into, IsStage}
use Rattle.scope_graph.proofs.ranks.give_ranks.Given as goal

abbrev pub invariant-loop-rank : goal.invariant-loop-rank
invariant-loop-rank l = IsStage (Into (rows_of l.into)) l.count l.rank l.ranks
