-- What is left to show of `scope_rows`.
use Rattle.flow_gathering.specs.TakeLaws.{taken_more}
use Rattle.flow_reports.proofs.rows.scope_rows.Goals as goal

pub loop-s-preserved : goal.loop-s-preserved
loop-s-preserved c = taken_more c.args.outline.now.scopes c.loop-s.rows.items c.push.new.self.items c.loop-s.s c.scope.result.now c.in_ok-push.ensures.items c.loop-s.invariant c.scope.ensures
