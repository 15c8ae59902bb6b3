-- What is left to show of `each_scope`.
use Rattle.std.proofs.Common.{◌≡◌, ℕ, Some, length, refl, arith, ap, ◌∙◌}
use Rattle.recorder_rules.specs.Generated.{generated}
use Rattle.flow_recorders.proofs.Steps.{generated_more}
use Rattle.flow_recorders.proofs.begun.each_scope.Goals as goal

pub loop-t-init : goal.loop-t-init
unfolding generated
loop-t-init c = c.new-keys.ensures.items

pub loop-t-preserved : goal.loop-t-preserved
loop-t-preserved c = c.in_ok-push.ensures.items ∙ generated_more c.loop-t.keys.items c.loop-t.t (λ (k : ℕ). Some k) _ refl c.loop-t.invariant

pub returns : goal.returns
returns c =
    let all : c.loop-t.t ≡ length c.args.outline.now.scopes = (let over = c.loop-t-test.false in omega arith) in
    c.loop-t.invariant ∙ ap (λ (k : ℕ). generated k (λ (k : ℕ). Some k)) all
