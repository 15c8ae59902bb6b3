-- The lines so far are those of the scopes.
use Rattle.std.proofs.Common.{arith}
use Rattle.domain_core.specs.Outlines.{no_scope}
use Rattle.report_checks.proofs.Steps.{one_more}
use Rattle.report_checks.proofs.shaping.are_scopes.Goals as goal

pub loop-s-preserved : goal.loop-s-preserved
loop-s-preserved c =
    let low = c.loop-s-test.true in
    let long = c.if-lines-scope_count.false in
    let first = c.scope_count.ensures in
    let second = c.scope_count-s-end.ensures in
    one_more c.args.lines.now c.args.outline.now.scopes c.loop-s.s no_scope c.scope.result.now (omega (arith, low, long, first, second)) c.loop-s.invariant
    (c.is_scope.ensures.0 c.if-not-is_scope.false) c.scope.ensures
