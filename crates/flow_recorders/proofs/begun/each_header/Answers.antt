-- What is left to show of `each_header`.
use Rattle.std.proofs.Common.{◌≡◌, ℕ, Some, length, arith, ap, sym, ◌∙◌}
use Rattle.std.proofs.lemmas.Option.{get_or_from_slice_get}
use Rattle.domain_core.specs.declared.outline.ScopeRow.{ScopeRow}
use Rattle.domain_core.specs.Outlines.{header_of, no_scope}
use Rattle.recorder_rules.specs.Generated.{generated}
use Rattle.flow_recorders.proofs.Steps.{generated_more}
use Rattle.flow_recorders.proofs.begun.each_header.Goals as goal

pub loop-t-init : goal.loop-t-init
unfolding generated
loop-t-init c = c.new-keys.ensures.items

pub loop-t-preserved : goal.loop-t-preserved
loop-t-preserved c = c.in_ok-push.ensures.items ∙ generated_more c.loop-t.keys.items c.loop-t.t (λ (k : ℕ). Some (header_of c.args.outline.now.scopes k)) _ (ap (λ (row : ScopeRow). Some row.header) (sym (get_or_from_slice_get c.args.outline.now.scopes c.loop-t.t c.scope.result.now no_scope c.scope.ensures))) c.loop-t.invariant

pub returns : goal.returns
returns c =
    let all : c.loop-t.t ≡ length c.args.outline.now.scopes = (let over = c.loop-t-test.false in omega arith) in
    c.loop-t.invariant ∙ ap (λ (k : ℕ). generated k (λ (k : ℕ). Some (header_of c.args.outline.now.scopes k))) all
