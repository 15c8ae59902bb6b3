use Rattle.graph_walks.proofs.CallLemmas.{ranks_rule_out}
use Rattle.graph_walks.proofs.laws.ranked_calls_have_no_cycle.Goals as goal

pub returns : goal.returns
returns c = ranks_rule_out
