-- What is left to show of `leads_to`.
use Rattle.std.proofs.Common.{◌≡◌, ◌==◌, ℕ, length, ◌+◌, ◌-◌, sym, ◌∙◌, arith, ap}
use Rattle.std.specs.List.{list_any}
use Rattle.domain_core.specs.Outlines.{scopes_from}
use Rattle.domain_core.proofs.Chains.{any_here, any_last, any_other}
use Rattle.domain_core.proofs.chain.leads_to.Goals as goal

pub loop-step-init : goal.loop-step-init
loop-step-init c = record { low = c.requires.low; same = ap (λ (k : ℕ). list_any (λ s. c.args.target == s) (scopes_from c.args.scopes.now k c.args.from)) (let e : length c.args.scopes.now ≡ length c.args.scopes.now - 0 = omega arith in e) }

pub returns-then-at-target : goal.returns-then-at-target
returns-then-at-target c =
    let l = c.loop-step in
    sym (l.invariant.same ∙ any_here c.args.scopes.now (length c.args.scopes.now - l._step) (length c.args.scopes.now - (l._step + 1)) l.at c.args.target (let low = c.loop-step-test.true in omega arith) c.if-at-target.true)

pub bounds : goal.bounds
bounds c = c.loop-step.invariant.low

pub returns-in-None : goal.returns-in-None
returns-in-None c =
    let l = c.loop-step in
    sym (l.invariant.same ∙ any_last c.args.scopes.now (length c.args.scopes.now - l._step) (length c.args.scopes.now - (l._step + 1)) l.at c.args.target (let low = c.loop-step-test.true in omega arith) c.if-at-target.false c.in-None.is)

pub loop-step-preserved : goal.loop-step-preserved
loop-step-preserved c =
    let l = c.loop-step in
    record {
      low = c.requires.parents l.at c.in-Some.parent l.invariant.low c.in-Some.is;
      same = l.invariant.same ∙ any_other c.args.scopes.now (length c.args.scopes.now - l._step) (length c.args.scopes.now - (l._step + 1)) l.at c.args.target c.in-Some.parent (let low = c.loop-step-test.true in omega arith) c.if-at-target.false c.in-Some.is;
    }

pub returns : goal.returns
returns c =
    let l = c.loop-step in
    let none : length c.args.scopes.now - l._step ≡ 0 = (let over = c.loop-step-test.false in omega arith) in
    sym (l.invariant.same ∙ ap (λ (k : ℕ). list_any (λ s. c.args.target == s) (scopes_from c.args.scopes.now k l.at)) none)
