-- What the walk along the numbers keeps.
use Rattle.std.proofs.Common.{◌-◌, length, None}
use Rattle.recorder_rules.specs.Spans.{collected}
use Rattle.recorder_rules.specs.TotalRules.{span_at, spread_at}
use Rattle.flow_recorders.specs.Walked.{IsWalked}
use Rattle.flow_recorders.proofs.walked.collect_scope.Given as goal

abbrev pub invariant-loop-i : goal.invariant-loop-i
invariant-loop-i l = IsWalked l.chains l.scope (λ j. collected (spread_at l.fn.spreads j) (span_at l.spans j)) None l.fn.spreads l.spreads l.i

abbrev pub decreases-loop-i : goal.decreases-loop-i
decreases-loop-i l = length l.spreads - l.i
