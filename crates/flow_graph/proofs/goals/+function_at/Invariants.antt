use Rattle.std.proofs.Common.{length}
use Rattle.flow_graph.proofs.goals.+function_at.Given as goal

abbrev pub decreases-function_at : goal.decreases-function_at
decreases-function_at l = length l.path.now
