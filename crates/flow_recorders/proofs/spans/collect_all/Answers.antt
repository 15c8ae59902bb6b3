-- What is left to show of `collect_all`.
use Rattle.std.proofs.Common.{None, length, get_or, arith}
use Rattle.recorder_rules.specs.GeneratedLaws.{generated_is}
use Rattle.recorder_rules.specs.Spans.{collected}
use Rattle.flow_recorders.proofs.spans.collect_all.Goals as goal

pub returns : goal.returns
returns c =
    let over = c.loop-i-test.false in
    generated_is (length c.args.spreads.now) (λ j. collected (get_or c.args.spreads.now j None) (get_or c.args.spans.now j (0, 0))) c.loop-i.spreads None (omega arith)
    (λ j low. c.loop-i.invariant.done j (omega (arith, c.requires)))
