-- What the loop keeps.
use Rattle.std.proofs.Common.{◌≡◌, ℕ, cond}
use Rattle.recorder_rules.specs.TallyRules.{is_at, key_at}
use Rattle.recorder_rules.specs.Generated.{generated}
use Rattle.flow_recorders.proofs.begun.begun.Given as goal

abbrev pub invariant-loop-i : goal.invariant-loop-i
invariant-loop-i l = l.counts.items ≡ generated l.i (λ (k : ℕ). cond (is_at (key_at l.nodes k) 0) 1 0)
