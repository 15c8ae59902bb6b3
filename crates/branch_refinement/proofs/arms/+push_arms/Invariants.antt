use Rattle.std.proofs.Common.{length}
use Rattle.branch_refinement.proofs.arms.+push_arms.Given as goal

abbrev pub decreases-push_arms : goal.decreases-push_arms
decreases-push_arms l = length l.targets.now
