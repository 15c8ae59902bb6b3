use Rattle.std.proofs.Common.{length}
use Rattle.branch_refinement.proofs.arms.+without_all.Given as goal

abbrev pub decreases-without_all : goal.decreases-without_all
decreases-without_all l = length l.targets.now
