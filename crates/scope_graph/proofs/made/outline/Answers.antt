-- What is left to show of `outline`.
use Rattle.std.proofs.Common.{ℕ, List, ◌∙◌, subst}
use Rattle.domain_core.specs.Reducible.{IsEdge, IsFalling, IsReducible}
use Rattle.scope_graph.proofs.Parts.{few_nodes, within_is, plan_is, reached_is}
use Rattle.scope_graph.proofs.made.outline.Goals as goal

pub back_edges-requires-clause-few : goal.back_edges-requires-clause-few
back_edges-requires-clause-few c = rw c.node_count.ensures (few_nodes c.args.graph.now c.keeps.ensures)

pub back_edges-requires-clause-within : goal.back_edges-requires-clause-within
back_edges-requires-clause-within c =
    let graph = c.args.graph.now in
    let kept = c.keeps.ensures in
    rw (c.deref.ensures.value, c.in_ok-edges.ensures, c.node_count.ensures) (within_is graph (plan_is graph kept (c.graphs_are_expansions.ensures kept.program graph kept.keeps kept.is)))

pub back_edges-requires-clause-reached : goal.back_edges-requires-clause-reached
back_edges-requires-clause-reached c =
    let graph = c.args.graph.now in
    let kept = c.keeps.ensures in
    rw (c.deref.ensures.value, c.in_ok-edges.ensures, c.node_count.ensures) (reached_is graph kept (c.graphs_are_expansions.ensures kept.program graph kept.keeps kept.is))

pub assembled-requires-clause-plan : goal.assembled-requires-clause-plan
assembled-requires-clause-plan c =
    let graph = c.args.graph.now in
    let kept = c.keeps.ensures in
    plan_is graph kept (c.graphs_are_expansions.ensures kept.program graph kept.keeps kept.is)

pub assembled-requires-clause-falling : goal.assembled-requires-clause-falling
assembled-requires-clause-falling c =
    let falls = c.in_ok-back.ensures.falling in
    (falls.0, subst (λ (es : List (ℕ × ℕ)). IsFalling (IsEdge es) falls.0) (c.deref.ensures.value ∙ c.in_ok-edges.ensures) falls.1)

pub returns-clause-reducible : goal.returns-clause-reducible
returns-clause-reducible c = subst (λ (es : List (ℕ × ℕ)). IsReducible (IsEdge es)) (c.deref.ensures.value ∙ c.in_ok-edges.ensures) c.in_ok-back.ensures.reducible
