-- What the loop over both lists keeps.
use Rattle.std.proofs.Common.{◌≡◌}
use Rattle.recorder_rules.specs.Generated.{generated}
use Rattle.recorder_rules.specs.Spans.{span_of}
use Rattle.recorder_rules.specs.TotalRules.{span_at}
use Rattle.flow_recorders.specs.SpanLists.{spans_in}
use Rattle.flow_recorders.proofs.ends.Ends.around.Given as goal

abbrev pub invariant-loop-i : goal.invariant-loop-i
invariant-loop-i l = l.found.items ≡ generated l.i (λ j. span_of (span_at (spans_in l.self) j) (span_at (spans_in l.other) j))
