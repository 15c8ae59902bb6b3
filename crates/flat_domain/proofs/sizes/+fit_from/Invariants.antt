use Rattle.std.proofs.Common.{length}
use Rattle.flat_domain.proofs.sizes.+fit_from.Given as goal

abbrev pub decreases-fit_from : goal.decreases-fit_from
decreases-fit_from g l = length l.args.now
