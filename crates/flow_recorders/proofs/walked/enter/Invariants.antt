-- What the walk along the numbers keeps.
use Rattle.std.proofs.Common.{◌-◌, length}
use Rattle.recorder_rules.specs.Spans.{one_more}
use Rattle.recorder_rules.specs.TotalRules.{span_at}
use Rattle.flow_recorders.specs.Walked.{IsWalked}
use Rattle.flow_recorders.proofs.walked.enter.Given as goal

abbrev pub invariant-loop-i : goal.invariant-loop-i
invariant-loop-i l = IsWalked l.chains l.node (λ j. one_more (span_at l.fn.spans j)) (0, 0) l.fn.spans l.spans l.i

abbrev pub decreases-loop-i : goal.decreases-loop-i
decreases-loop-i l = length l.spans - l.i
