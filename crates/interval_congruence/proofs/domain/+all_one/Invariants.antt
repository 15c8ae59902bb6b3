use Rattle.std.proofs.Common.{length}
use Rattle.interval_congruence.proofs.domain.+all_one.Given as goal

abbrev pub decreases-all_one : goal.decreases-all_one
decreases-all_one l = length l.args.now
