-- What is left to show of `enter`.
use Rattle.std.proofs.Common.{◌≡◌, ◌<◌, ℕ, length, arith, ap}
use Rattle.recorder_rules.specs.SpanLaws.{below_greatest}
use Rattle.recorder_rules.specs.TotalRules.{span_at}
use Rattle.flow_recorders.proofs.walked.enter.Goals as goal

pub visit-requires-clause-least : goal.visit-requires-clause-least
visit-requires-clause-least c =
    let low : c.loop-i.i < length c.args.spans.now = (let within = c.loop-i-test.true in let same = c.loop-i.invariant.same_length in omega arith) in
    let below = (below_greatest c.args.spans.now c.loop-i.i low).0 in
    let same : (span_at c.loop-i.spans c.loop-i.i).0 ≡ (span_at c.args.spans.now c.loop-i.i).0 = ap (λ (s : ℕ × ℕ). s.0) (c.loop-i.invariant.rest c.loop-i.i (omega arith)) in
    omega (arith, c.requires.room)

pub visit-requires-clause-most : goal.visit-requires-clause-most
visit-requires-clause-most c =
    let low : c.loop-i.i < length c.args.spans.now = (let within = c.loop-i-test.true in let same = c.loop-i.invariant.same_length in omega arith) in
    let below = (below_greatest c.args.spans.now c.loop-i.i low).1 in
    let same : (span_at c.loop-i.spans c.loop-i.i).1 ≡ (span_at c.args.spans.now c.loop-i.i).1 = ap (λ (s : ℕ × ℕ). s.1) (c.loop-i.invariant.rest c.loop-i.i (omega arith)) in
    omega (arith, c.requires.room)
