-- What the loop from the last number down keeps.
use Rattle.std.proofs.Common.{◌≤◌, length}
use Rattle.flow_recorders.specs.Chained.{IsChainedFrom}
use Rattle.flow_recorders.proofs.chains.link_all.Given as goal

abbrev pub invariant-loop-i : goal.invariant-loop-i
invariant-loop-i l = record {
  low : l.i ≤ length l.keys;
  so_far : IsChainedFrom l.keys l.i l.first l.next;
}

abbrev pub decreases-loop-i : goal.decreases-loop-i
decreases-loop-i l = l.i
