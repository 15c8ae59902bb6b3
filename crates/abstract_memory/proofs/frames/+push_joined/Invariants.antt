-- What gets less as `push_joined` calls itself.
use Rattle.std.proofs.Common.{length}
use Rattle.abstract_memory.proofs.frames.+push_joined.Given as goal

abbrev pub decreases-push_joined : goal.decreases-push_joined
decreases-push_joined l = length l.rows.now
