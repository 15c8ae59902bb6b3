use Rattle.std.proofs.Common.{length}
use Rattle.answer_texts.proofs.scope_lines.+push_walk.Given as goal

abbrev pub decreases-push_walk : goal.decreases-push_walk
decreases-push_walk l = length l.nodes.now
