-- What is left to show of `position_after`.
use Rattle.std.proofs.Common.{rules, ◌≡◌, ℕ, length, List, Contains, ap, sym, ◌∙◌, subst}
use Rattle.lists.specs.MemberLaws.{first_member, further_member}
use Rattle.domain_core.specs.Outlines.{shape_of, scopes_around}
use Rattle.worklist_rules.specs.Positions.{ranks_and_turns, entered, turn_in}
use Rattle.abstract_exec.proofs.Placing.{around_low, begun, one_more, ended, rank_is}
use Rattle.abstract_exec.proofs.position.position_after.Goals as goal

pub loop-scope-init : goal.loop-scope-init
loop-scope-init c =
    let o = shape_of c.args.outline.now in
    let is = c.requires.around in
    record {
      low = λ t there. around_low c.args.outline.now c.kept.ensures c.args.to c.requires.node t (subst (λ (xs : List ℕ). Contains xs t) is there);
      same = begun o (λ t. entered o c.args.to t (turn_in c.args.scopes.now c.args.position.now t)) _ c.args.around.now (scopes_around o c.args.to) c.in_ok-made.ensures.items is;
    }

pub rank_of_header-requires : goal.rank_of_header-requires
rank_of_header-requires c =
    c.loop-scope.invariant.low c.in-Some.scope.now (subst (λ (xs : List ℕ). Contains xs c.in-Some.scope.now) (sym c.in-Some.ensures.cases.0) (first_member c.in-Some.scope.now c.in-Some.others.now))

pub number_after-requires-clause-scope : goal.number_after-requires-clause-scope
number_after-requires-clause-scope c =
    c.loop-scope.invariant.low c.in-Some.scope.now (subst (λ (xs : List ℕ). Contains xs c.in-Some.scope.now) (sym c.in-Some.ensures.cases.0) (first_member c.in-Some.scope.now c.in-Some.others.now))

pub loop-scope-preserved : goal.loop-scope-preserved
loop-scope-preserved c =
    let o = shape_of c.args.outline.now in
    let turn : ℕ → ℕ = λ t. entered o c.args.to t (turn_in c.args.scopes.now c.args.position.now t) in
    record {
      low = λ t there. c.loop-scope.invariant.low t (subst (λ (xs : List ℕ). Contains xs t) (sym c.in-Some.ensures.cases.0) (further_member c.in-Some.scope.now c.in-Some.others.now t there));
      same =
          one_more o turn c.loop-scope.made.items c.push.new.self.items c.push-in-Some.new.self.items c.loop-scope.rest.now c.in-Some.others.now (ranks_and_turns o turn (scopes_around o c.args.to)) c.in-Some.scope.now c.rank_of_header.result c.number_after.result c.in-Some.ensures.cases.0 c.in_ok-push.ensures.ok c.in_ok-push-2.ensures.ok c.rank_of_header.ensures
          (c.number_after.ensures ∙ ap (λ (k : ℕ). entered o c.args.to c.in-Some.scope.now k) c.number_in.ensures) c.loop-scope.invariant.same;
    }

pub returns : goal.returns
returns c =
    let o = shape_of c.args.outline.now in
    let turn : ℕ → ℕ = λ t. entered o c.args.to t (turn_in c.args.scopes.now c.args.position.now t) in
    let none : length c.loop-scope.rest.now ≡ 0 = search rules in
    ended c.args.outline.now turn c.loop-scope.made.items c.push-2.new.self.items c.loop-scope.rest.now c.args.to c.node.result.now.rank none c.loop-scope.invariant.same c.in_ok-push-3.ensures.ok (rank_is c.args.outline.now c.args.to c.node.result.now c.node.ensures)
