-- What is left to show of `chain`.
use Rattle.std.proofs.Common.{◌≡◌, ◌++◌, ◌∷◌, [], ℕ, List, length, ◌+◌, ◌-◌, sym, ◌∙◌, arith, ap}
use Rattle.std.proofs.lemmas.List.{append_assoc, append-nil}
use Rattle.domain_core.specs.Outlines.{scopes_from}
use Rattle.domain_core.proofs.Chains.{from_last, from_more}
use Rattle.domain_core.proofs.chain.chain.Goals as goal

pub loop-step-init : goal.loop-step-init
loop-step-init c = record {
  low = c.requires.low;
  same = rw c.new-found.ensures.items (ap (λ (k : ℕ). scopes_from c.args.scopes.now k c.args.from) (let e : length c.args.scopes.now - 0 ≡ length c.args.scopes.now = omega arith in e));
}

pub bounds : goal.bounds
bounds c = c.loop-step.invariant.low

pub returns-in-None : goal.returns-in-None
returns-in-None c =
    let l = c.loop-step in
    c.in_ok-push.ensures.items
    ∙ ap (λ (xs : List ℕ). l.found.items ++ xs) (sym (from_last c.args.scopes.now (length c.args.scopes.now - l._step) (length c.args.scopes.now - (l._step + 1)) l.at (let low = c.loop-step-test.true in omega arith) c.in-None.is))
    ∙ l.invariant.same

pub loop-step-preserved : goal.loop-step-preserved
loop-step-preserved c =
    let l = c.loop-step in
    let rest = scopes_from c.args.scopes.now (length c.args.scopes.now - (l._step + 1)) c.in-Some.parent in
    record {
      low = c.requires.parents l.at c.in-Some.parent l.invariant.low c.in-Some.is;
      same =
          ap (λ (xs : List ℕ). xs ++ rest) c.in_ok-push.ensures.items
          ∙ append_assoc l.found.items (l.at ∷ []) rest
          ∙ ap (λ (xs : List ℕ). l.found.items ++ xs) (sym (from_more c.args.scopes.now (length c.args.scopes.now - l._step) (length c.args.scopes.now - (l._step + 1)) l.at c.in-Some.parent (let low = c.loop-step-test.true in omega arith) c.in-Some.is))
          ∙ l.invariant.same;
    }

pub returns : goal.returns
returns c =
    let l = c.loop-step in
    let none : length c.args.scopes.now - l._step ≡ 0 = (let over = c.loop-step-test.false in omega arith) in
    sym (append-nil l.found.items)
    ∙ ap (λ (k : ℕ). l.found.items ++ scopes_from c.args.scopes.now k l.at) (sym none)
    ∙ l.invariant.same
