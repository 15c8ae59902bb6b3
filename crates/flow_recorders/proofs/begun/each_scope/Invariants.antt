-- What the loop keeps.
use Rattle.std.proofs.Common.{◌≡◌, ℕ, Some}
use Rattle.recorder_rules.specs.Generated.{generated}
use Rattle.flow_recorders.proofs.begun.each_scope.Given as goal

abbrev pub invariant-loop-t : goal.invariant-loop-t
invariant-loop-t l = l.keys.items ≡ generated l.t (λ (k : ℕ). Some k)
