-- What is left to show of `add_headed`.
use Rattle.std.proofs.Common.{sym, ◌∙◌}
use Rattle.domain_core.specs.Outlines.{header_of}
use Rattle.flow_recorders.specs.ClimbLaws.{header_at}
use Rattle.pair_recorder.proofs.Ended.{headed_pushed, not_headed}
use Rattle.pair_recorder.proofs.ending.add_headed.Goals as goal

pub returns-in_ok-push : goal.returns-in_ok-push
returns-in_ok-push c t =
    headed_pushed t c.args.scope (header_of c.args.outline.now.scopes c.args.scope) c.args.node c.args.ended.now.items c.push.new.self.items c.in_ok-push.ensures.items
    (header_at c.args.outline.now c.args.scope c.scope.result.now c.scope.ensures ∙ c.if-scope-node.true)

pub returns-else-scope-node : goal.returns-else-scope-node
returns-else-scope-node c t =
    not_headed t c.args.scope (header_of c.args.outline.now.scopes c.args.scope) c.args.node c.args.ended.now.items
    (λ same. c.if-scope-node.false (sym (header_at c.args.outline.now c.args.scope c.scope.result.now c.scope.ensures) ∙ same))
