use Rattle.std.proofs.Common.{length, ◌+◌}
use Rattle.simplex_tableau.specs.Merging.{IsMerging}
use Rattle.simplex_tableau.proofs.merging.mixed.Given as goal

abbrev pub invariant-loop-place : goal.invariant-loop-place
invariant-loop-place l = IsMerging l.a l.b l.f l.h l.out.items l.first l.second

abbrev pub decreases-loop-place : goal.decreases-loop-place
decreases-loop-place l = length l.first + length l.second
