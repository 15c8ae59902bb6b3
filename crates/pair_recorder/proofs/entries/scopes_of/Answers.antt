-- What is left to show of `scopes_of`.
use Rattle.std.proofs.Common.{arith}
use Rattle.pair_recorder.proofs.ScopesIn.{scopes_next}
use Rattle.pair_recorder.proofs.entries.scopes_of.Goals as goal

pub loop-seen-preserved : goal.loop-seen-preserved
loop-seen-preserved c =
    scopes_next c.args.entries.now c.loop-seen.seen-index _ c.loop-seen.scopes.items c.add_scope.new.scopes.items (let low = c.loop-seen-test.true in omega arith)
    c.in_ok-add_scope.ensures c.loop-seen.invariant
