-- What is left to show of `counted_scopes`.
use Rattle.std.proofs.Common.{◌≡◌, ℕ, length, arith, ap, ◌∙◌}
use Rattle.domain_core.specs.Outlines.{shape_of}
use Rattle.recorder_rules.specs.LoopRules.{counted_scope}
use Rattle.recorder_rules.specs.Generated.{generated}
use Rattle.flow_recorders.proofs.Steps.{generated_more}
use Rattle.flow_recorders.proofs.begun.counted_scopes.Goals as goal

pub loop-n-init : goal.loop-n-init
unfolding generated
loop-n-init c = c.new-keys.ensures.items

pub loop-n-preserved : goal.loop-n-preserved
loop-n-preserved c = c.in_ok-push.ensures.items ∙ generated_more c.loop-n.keys.items c.loop-n.n (counted_scope (shape_of c.args.outline.now)) _ c.scope_key.ensures c.loop-n.invariant

pub returns : goal.returns
returns c =
    let all : c.loop-n.n ≡ length c.args.outline.now.nodes = (let over = c.loop-n-test.false in omega arith) in
    c.loop-n.invariant ∙ ap (λ (k : ℕ). generated k (counted_scope (shape_of c.args.outline.now))) all
