-- What the loop keeps.
use Rattle.std.proofs.Common.{◌≡◌, take}
use Rattle.flow_recorders.proofs.small.narrowed.Given as goal

abbrev pub invariant-loop-i : goal.invariant-loop-i
invariant-loop-i l = l.bytes.items ≡ take l.i l.counts
