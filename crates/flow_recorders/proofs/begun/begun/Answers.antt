-- What is left to show of `begun`.
use Rattle.std.proofs.Common.{◌≡◌, ℕ, List, map, length, arith, ◌∙◌, cond}
use Rattle.std.proofs.lemmas.Result.{IfOk-weaker}
use Rattle.recorder_rules.specs.TallyRules.{is_at, key_at}
use Rattle.recorder_rules.specs.Generated.{generated}
use Rattle.flow_recorders.specs.SpanLists.{only}
use Rattle.flow_recorders.proofs.Steps.{generated_more}
use Rattle.flow_recorders.proofs.Keys.{begun_spans}
use Rattle.flow_recorders.proofs.begun.begun.Goals as goal

pub loop-i-init : goal.loop-i-init
unfolding generated
loop-i-init c = c.in_ok-counts.ensures.items

pub loop-i-preserved : goal.loop-i-preserved
loop-i-preserved c = c.in_ok-push.ensures.items ∙ generated_more c.loop-i.counts.items c.loop-i.i (λ (k : ℕ). cond (is_at (key_at c.args.nodes.now k) 0) 1 0) _ c.begun_at.ensures c.loop-i.invariant

pub returns : goal.returns
returns c =
    let all : c.loop-i.i ≡ length c.args.nodes.now = (let over = c.loop-i-test.false in omega arith) in
    IfOk-weaker c.only.result _ _
    (λ (spans : List (ℕ × ℕ)) (are : spans ≡ map only c.loop-i.counts.items). are ∙ begun_spans c.loop-i.counts.items c.loop-i.i c.args.nodes.now all c.loop-i.invariant)
    c.only.ensures
