-- What the loop keeps.
use Rattle.std.proofs.Common.{◌≡◌, take, length}
use Rattle.flow_recorders.proofs.few.FewCounts.of.Given as goal

abbrev pub invariant-loop-i : goal.invariant-loop-i
invariant-loop-i l = record {
  done : take l.i l.few ≡ take l.i l.counts;
  room : length l.few ≡ 23;
}
