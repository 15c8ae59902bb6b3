-- What is left to show of `own_scope`.
use Rattle.std.proofs.Common.{◌<◌, ℕ, length, subst}
use Rattle.pair_recorder.proofs.Handed.{own_at, own_low}
use Rattle.pair_recorder.proofs.tables.own_scope.Goals as goal

pub returns-clause-low : goal.returns-clause-low
returns-clause-low c =
    subst (λ (s : ℕ). s < length c.args.outline.now.scopes) (own_at c.args.outline.now.nodes c.args.node c.node.result.now c.node.ensures)
    (c.kept.ensures.scopes_within c.args.node (own_low c.args.outline.now c.args.node c.requires))
