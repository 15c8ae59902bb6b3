-- What the walk over the forks keeps: those before lie along edges.
use Rattle.std.proofs.Common.{◌≡◌, ◌<◌, ℕ, Some, slice_get}
use Rattle.exec_toys.specs.declared.fork.Fork.{Fork}
use Rattle.exec_toys.specs.Charts.{IsWayAlong}
use Rattle.exec_toys.proofs.edges.are_forks_along.Given as goal

abbrev pub invariant-loop-n : goal.invariant-loop-n
invariant-loop-n l = (m : ℕ) (fork : Fork) → m < l.n → slice_get l.forks m ≡ Some fork → IsWayAlong l.outline.edges m fork.below × IsWayAlong l.outline.edges m fork.above
