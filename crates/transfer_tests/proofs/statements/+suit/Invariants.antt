-- There are fewer and fewer arguments.
use Rattle.std.proofs.Common.{length}
use Rattle.transfer_tests.proofs.statements.+suit.Given as goal

abbrev pub decreases-suit : goal.decreases-suit
decreases-suit l = length l.args.now
