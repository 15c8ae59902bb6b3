-- By the law.
use Rattle.cache_analysis.proofs.OneAnswerLaws.{one_analysis}
use Rattle.cache_analysis.proofs.laws.a_program_has_one_cache_analysis.Goals as goal

pub returns : goal.returns
returns c = one_analysis c.a_graph_has_one_ranking.ensures.shape
