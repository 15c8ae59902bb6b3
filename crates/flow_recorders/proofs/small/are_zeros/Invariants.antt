-- What the loop keeps.
use Rattle.std.proofs.Common.{◌≡◌, take, replicate}
use Rattle.flow_recorders.proofs.small.are_zeros.Given as goal

abbrev pub invariant-loop-count : goal.invariant-loop-count
invariant-loop-count l = take l.count-index l.counts ≡ replicate l.count-index 0
