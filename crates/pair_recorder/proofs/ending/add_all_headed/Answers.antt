-- What is left to show of `add_all_headed`.
use Rattle.std.proofs.Common.{◌==◌, ◌||◌, ◌&&◌, ℕ, List, ap, arith}
use Rattle.std.specs.List.{list_any}
use Rattle.domain_core.specs.Outlines.{header_of}
use Rattle.flow_recorders.specs.ClimbLaws.{own_in, parent_at}
use Rattle.pair_recorder.proofs.Ended.{from_own, last_found, more_found, all_found}
use Rattle.pair_recorder.proofs.ending.add_all_headed.Goals as goal

pub loop-step-init : goal.loop-step-init
loop-step-init c =
    let o = c.args.outline.now in
    record {
      low = own_in o c.kept.ensures c.args.from c.node.result.now c.requires.from c.node.ensures;
      found = λ t. ap (λ (xs : List ℕ). list_any (λ s. t == s) c.args.ended.now.items || list_any (λ s. (t == s) && (header_of o.scopes s == c.args.to)) xs) (from_own o c.args.from c.args.to c.node.result.now c.node.ensures);
    }

pub returns-in-None : goal.returns-in-None
returns-in-None c t =
    let o = c.args.outline.now in
    let l = c.loop-step in
    last_found o c.args.from c.args.to t (list_any (λ s. t == s) c.args.ended.now.items) (list_any (λ s. t == s) l.ended.items) l.step l.scope (l.invariant.found t)
    (list_any (λ s. t == s) c.add_headed.new.ended.items) (c.in_ok-add_headed.ensures t) (let low = c.loop-step-test.true in omega arith) (parent_at o l.scope c.scope.result.now _ c.scope.ensures c.in-None.is)

pub loop-step-preserved : goal.loop-step-preserved
loop-step-preserved c =
    let o = c.args.outline.now in
    let l = c.loop-step in
    let above = parent_at o l.scope c.scope.result.now _ c.scope.ensures c.in-Some.is in
    record {
      low = c.kept.ensures.parents_within l.scope c.in-Some.parent l.invariant.low above;
      found = λ t. more_found o c.args.from c.args.to t (list_any (λ s. t == s) c.args.ended.now.items) (list_any (λ s. t == s) l.ended.items) l.step l.scope (l.invariant.found t)
          (list_any (λ s. t == s) c.add_headed.new.ended.items) c.in-Some.parent (c.in_ok-add_headed.ensures t) (let low = c.loop-step-test.true in omega arith) above;
    }

pub returns : goal.returns
returns c t =
    let l = c.loop-step in
    all_found c.args.outline.now c.args.from c.args.to t (list_any (λ s. t == s) c.args.ended.now.items) (list_any (λ s. t == s) l.ended.items) l.step l.scope (l.invariant.found t)
    (let over = c.loop-step-test.false in let many = c.scope_count-step-end.ensures in omega arith)
