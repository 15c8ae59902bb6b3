-- What is left to show of `left_nearby`.
use Rattle.std.proofs.Common.{◌≡◌, ◌==◌, List, false, true, refl, sym, ap, ◌∙◌, ℕ, arith}
use Rattle.std.specs.List.{list_any}
use Rattle.flow_recorders.specs.ClimbLaws.{own_at, own_in, parent_at}
use Rattle.flow_recorders.proofs.LeftScopes.{begin_whole, whole_pushed}
use Rattle.flow_recorders.proofs.NearScopes.{near_left, apart_pushed, below_pushed}
use Rattle.flow_recorders.proofs.leaving.left_nearby.Goals as goal

pub scope-requires : goal.scope-requires
scope-requires c = own_in c.args.outline.now c.kept.ensures c.args.to c.node.result.now c.requires.to c.node.ensures

pub loop-step-init : goal.loop-step-init
loop-step-init c =
    let empty = c.new-left.ensures.items in
    record {
      low = own_in c.args.outline.now c.kept.ensures c.args.from c.node-2.result.now c.requires.from c.node-2.ensures;
      whole = begin_whole c.args.outline.now c.kept.ensures c.args.from c.args.to c.node-2.result.now c.new-left.result.items c.node-2.ensures empty;
      apart = λ t found. absurd (let bad : false ≡ true = ap (λ (xs : List ℕ). list_any (λ n. t == n) xs) (sym empty) ∙ found in cc);
      below = λ t found. absurd (let bad : false ≡ true = ap (λ (xs : List ℕ). list_any (λ n. t == n) xs) (sym empty) ∙ found in cc);
    }

pub returns-then-is_near : goal.returns-then-is_near
returns-then-is_near c =
    let o = c.args.outline.now in
    let l = c.loop-step in
    near_left o c.kept.ensures c.args.from c.args.to c.node.result.now.scope c.scope.result.now.parent
    (own_in o c.kept.ensures c.args.to c.node.result.now c.requires.to c.node.ensures)
    (own_at o.nodes c.args.to c.node.result.now c.node.ensures)
    (parent_at o c.node.result.now.scope c.scope.result.now c.scope.result.now.parent c.scope.ensures refl)
    l.left.items l.step l.scope l.invariant.whole l.invariant.apart l.invariant.below (sym c.is_near.ensures ∙ c.if-is_near.true)

pub loop-step-preserved : goal.loop-step-preserved
loop-step-preserved c =
    let o = c.args.outline.now in
    let l = c.loop-step in
    let above = parent_at o l.scope c.scope-in-loop-step.result.now _ c.scope-in-loop-step.ensures c.in-Some.is in
    let is_own = own_at o.nodes c.args.to c.node.result.now c.node.ensures in
    let own_low = own_in o c.kept.ensures c.args.to c.node.result.now c.requires.to c.node.ensures in
    let parent = parent_at o c.node.result.now.scope c.scope.result.now c.scope.result.now.parent c.scope.ensures refl in
    record {
      low = c.kept.ensures.parents_within l.scope c.in-Some.parent l.invariant.low above;
      whole = whole_pushed o c.kept.ensures c.args.from c.args.to l.left.items l.step l.scope l.invariant.whole c.push.new.self.items c.in-Some.parent c.in_ok-push.ensures.items (let low = c.loop-step-test.true in omega arith) above;
      apart = apart_pushed o c.kept.ensures c.args.from c.args.to c.node.result.now.scope c.scope.result.now.parent own_low is_own parent l.left.items l.step l.scope
          c.push.new.self.items c.in_ok-push.ensures.items l.invariant.apart (sym c.is_near.ensures ∙ c.if-is_near.false);
      below = below_pushed o c.kept.ensures c.args.from c.args.to c.node.result.now.scope c.scope.result.now.parent own_low is_own parent l.left.items l.step l.scope
          c.push.new.self.items c.in_ok-push.ensures.items l.invariant.below c.in-Some.parent above;
    }
