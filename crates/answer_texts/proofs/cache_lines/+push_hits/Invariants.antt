use Rattle.std.proofs.Common.{length}
use Rattle.answer_texts.proofs.cache_lines.+push_hits.Given as goal

abbrev pub decreases-push_hits : goal.decreases-push_hits
decreases-push_hits l = length l.nodes.now
