-- What the walk along the numbers keeps.
use Rattle.std.specs.Prelude.{◌↔◌, IsTrue}
use Rattle.std.proofs.Common.{◌-◌, ℕ, length}
use Rattle.flow_recorders.specs.Walked.{IsWalked}
use Rattle.flow_recorders.proofs.Widths.{WideBelow}
use Rattle.flow_recorders.proofs.walked.reset_scope.Given as goal

abbrev pub invariant-loop-i : goal.invariant-loop-i
invariant-loop-i l = record {
  walked : IsWalked {A = ℕ × ℕ} l.chains l.scope (λ j. (0, 0)) (0, 0) l.fn.spans l.spans l.i;
  wide : IsTrue l.was_wide ↔ WideBelow l.chains l.scope l.fn.spans l.i;
}

abbrev pub decreases-loop-i : goal.decreases-loop-i
decreases-loop-i l = length l.spans - l.i
