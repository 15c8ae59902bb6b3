-- Each member has the size.
use Rattle.std.proofs.Common.{◌≡◌}
use Rattle.transfer_tests.proofs.values.words.Given as goal

abbrev pub invariant-loop-member : goal.invariant-loop-member
invariant-loop-member l = l.set.size ≡ l.size
