-- What is left to show of `left_scopes`.
use Rattle.std.proofs.Common.{◌≡◌, true, false, refl, arith}
use Rattle.flow_recorders.proofs.LeftScopes.{begin_low, begin_whole, begin_out, at_holder, out_pushed, at_top, whole_pushed}
use Rattle.flow_recorders.specs.ClimbLaws.{parent_at}
use Rattle.flow_recorders.proofs.leaving.left_by_walks.Goals as goal

pub loop-step-init : goal.loop-step-init
loop-step-init c = record {
  low = begin_low c.args.outline.now c.kept.ensures c.args.from c.args.to c.node.result.now c.requires.from c.node.ensures;
  whole = begin_whole c.args.outline.now c.kept.ensures c.args.from c.args.to c.node.result.now c.new-left.result.items c.node.ensures c.new-left.ensures.items;
  out = begin_out c.args.outline.now c.kept.ensures c.args.from c.args.to c.new-left.result.items c.new-left.ensures.items;
}

pub returns-then-holds : goal.returns-then-holds
returns-then-holds c =
    let l = c.loop-step in
    at_holder c.args.outline.now c.kept.ensures c.args.from c.args.to l.left.items l.step l.scope l.invariant.whole l.invariant.out (c.if-holds.ensures.0 refl)

pub returns-in-None : goal.returns-in-None
returns-in-None c =
    let l = c.loop-step in
    at_top c.args.outline.now c.kept.ensures c.args.from c.args.to l.left.items l.step l.scope l.invariant.whole l.invariant.out c.push.new.self.items c.in_ok-push.ensures.items
    (λ held. let bad : false ≡ true = c.if-holds.ensures.1 held in cc) (let low = c.loop-step-test.true in omega arith) (parent_at c.args.outline.now l.scope c.scope.result.now _ c.scope.ensures c.in-None.is)

pub loop-step-preserved : goal.loop-step-preserved
loop-step-preserved c =
    let l = c.loop-step in
    let above = parent_at c.args.outline.now l.scope c.scope.result.now _ c.scope.ensures c.in-Some.is in
    record {
      low = c.kept.ensures.parents_within l.scope c.in-Some.parent l.invariant.low above;
      whole = whole_pushed c.args.outline.now c.kept.ensures c.args.from c.args.to l.left.items l.step l.scope l.invariant.whole c.push.new.self.items c.in-Some.parent c.in_ok-push.ensures.items (let low = c.loop-step-test.true in omega arith) above;
      out = out_pushed c.args.outline.now c.kept.ensures c.args.from c.args.to l.left.items l.step l.scope l.invariant.whole l.invariant.out c.push.new.self.items c.in_ok-push.ensures.items (λ held. let bad : false ≡ true = c.if-holds.ensures.1 held in cc);
    }
