-- What is left to show of `keeps_outer_numbers`.
use Rattle.std.proofs.Common.{◌≡◌, ℕ, None, Some, ap, sym, ◌∙◌, subst}
use Rattle.domain_core.specs.Outlines.{LeadsTo, parent_of}
use Rattle.abstract_exec.proofs.Placing.{own_low, scope_is, parent_is}
use Rattle.abstract_exec.proofs.numbers.keeps_outer_numbers.Goals as goal

pub scope-requires : goal.scope-requires
scope-requires c = own_low c.args.outline.now c.kept.ensures c.args.node c.node.result.now c.requires c.node.ensures

pub heads_none-requires : goal.heads_none-requires
heads_none-requires c =
    let o = c.args.outline.now in
    let row = c.node.result.now in
    c.kept.ensures.parents_within row.scope c.in-Some.parent (own_low o c.kept.ensures c.args.node row c.requires c.node.ensures) (sym (parent_is o row.scope c.scope.result.now c.scope.ensures) ∙ c.in-Some.is)

pub returns-in-None : goal.returns-in-None
returns-in-None c =
    let o = c.args.outline.now in
    let row = c.node.result.now in
    λ yes t p is way.
    absurd (let both : Some p ≡ None = sym is ∙ ap (λ (s : ℕ). parent_of o.scopes s) (scope_is o c.args.node row c.node.ensures) ∙ sym (parent_is o row.scope c.scope.result.now c.scope.ensures) ∙ c.in-None.is in cc)

pub returns-in-Some : goal.returns-in-Some
returns-in-Some c =
    let o = c.args.outline.now in
    let row = c.node.result.now in
    λ yes t p is way.
    let both : Some p ≡ Some c.in-Some.parent = sym is ∙ ap (λ (s : ℕ). parent_of o.scopes s) (scope_is o c.args.node row c.node.ensures) ∙ sym (parent_is o row.scope c.scope.result.now c.scope.ensures) ∙ c.in-Some.is in
    let same : p ≡ c.in-Some.parent = cc in
    c.heads_none.ensures yes t (subst (λ (x : ℕ). LeadsTo o.scopes t x) same way)
