use Rattle.std.proofs.Common.{length}
use Rattle.pointer_domain.proofs.choices.+choices.Given as goal

abbrev pub decreases-choices : goal.decreases-choices
decreases-choices l = length l.args.now
