-- What is left to show of `ranks_of`.
use Rattle.std.proofs.Common.{ℕ, List, map, filter, sym, ◌∙◌, subst}
use Rattle.graph_walks.specs.Tables.{rows_of}
use Rattle.graph_walks.specs.TableLaws.{rows_long}
use Rattle.domain_core.specs.Reducible.{IsEdge}
use Rattle.scope_graph.specs.Tables.{IsTable}
use Rattle.scope_graph.specs.Assembled.{flip}
use Rattle.scope_graph.specs.Ranking.{Into, IsStage, is_forward}
use Rattle.scope_graph.proofs.Forward.{forward_is, forward_there, forward_all, forward_falls}
use Rattle.scope_graph.proofs.Stages.{stage_last}
use Rattle.scope_graph.proofs.ranks.ranks_of.Goals as goal

pub predecessors-requires-clause-within : goal.predecessors-requires-clause-within
predecessors-requires-clause-within c = λ u v edge.
    let is = c.deref.ensures.value ∙ c.in_ok-forward.ensures in
    let forward = forward_is c.args.edges.now c.args.back.now c.requires.noted u v (subst (λ (es : List (ℕ × ℕ)). IsEdge es u v) is edge) in
    (c.requires.within u v forward.0).1

pub ranked-requires-clause-long : goal.ranked-requires-clause-long
ranked-requires-clause-long c = rw c.deref-2.ensures.value (sym (rows_long c.in_ok-into.into.items) ∙ c.in_ok-into.ensures.long)

pub ranked-requires-clause-within : goal.ranked-requires-clause-within
ranked-requires-clause-within c =
    let edges = c.args.edges.now in
    let back = c.args.back.now in
    let table = rows_of c.in_ok-into.into.items in
    let t : IsTable (map flip (filter (is_forward back) edges)) c.args.count table =
    subst (λ (es : List (ℕ × ℕ)). IsTable (map flip es) c.args.count table) (c.deref.ensures.value ∙ c.in_ok-forward.ensures) c.in_ok-into.ensures in
    rw c.deref-2.ensures.value (λ u n there. (c.requires.within u n (forward_there edges back c.requires.noted c.args.count table t u n there).0).0)

pub ranked-requires-clause-falling : goal.ranked-requires-clause-falling
ranked-requires-clause-falling c =
    let edges = c.args.edges.now in
    let back = c.args.back.now in
    let table = rows_of c.in_ok-into.into.items in
    let t : IsTable (map flip (filter (is_forward back) edges)) c.args.count table =
    subst (λ (es : List (ℕ × ℕ)). IsTable (map flip es) c.args.count table) (c.deref.ensures.value ∙ c.in_ok-forward.ensures) c.in_ok-into.ensures in
    rw c.deref-2.ensures.value (c.requires.falling.0, forward_falls edges back c.requires.noted c.args.count table t c.requires.falling.0 c.requires.falling.1)

pub returns : goal.returns
returns c =
    let edges = c.args.edges.now in
    let back = c.args.back.now in
    let table = rows_of c.in_ok-into.into.items in
    let t : IsTable (map flip (filter (is_forward back) edges)) c.args.count table =
    subst (λ (es : List (ℕ × ℕ)). IsTable (map flip es) c.args.count table) (c.deref.ensures.value ∙ c.in_ok-forward.ensures) c.in_ok-into.ensures in
    let stage : IsStage (Into table) c.args.count c.args.count c.in_ok-ranks.ranks.items = rw c.deref-2.ensures.value at c.in_ok-ranks.ensures in
    stage_last (IsEdge edges) (Into table) (forward_there edges back c.requires.noted c.args.count table t) (forward_all edges back c.requires.noted c.args.count table t) c.args.count c.in_ok-ranks.ranks.items stage
