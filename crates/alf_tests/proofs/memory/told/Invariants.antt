-- The count of functions stays that of the frames.
use Rattle.std.proofs.Common.{◌≡◌, length}
use Rattle.alf_tests.proofs.memory.told.Given as goal

abbrev pub invariant-loop-line : goal.invariant-loop-line
invariant-loop-line l = l.count ≡ length l.frames.running
