-- What is left to show of `predecessors`.
use Rattle.std.proofs.Common.{◌≡◌, ℕ, List, map, ◌∙◌, subst}
use Rattle.graph_walks.specs.Tables.{rows_of}
use Rattle.domain_core.specs.Reducible.{IsEdge}
use Rattle.scope_graph.specs.Tables.{IsTable}
use Rattle.scope_graph.specs.Assembled.{flip}
use Rattle.scope_graph.proofs.Flipped.{flip_edge}
use Rattle.scope_graph.proofs.table.predecessors.Goals as goal

pub successors-requires-clause-within : goal.successors-requires-clause-within
successors-requires-clause-within c = λ u v edge.
    let is : c.deref.result.now ≡ map flip c.args.edges.now = c.deref.ensures.value ∙ c.in_ok-turned.ensures in
    c.requires.within v u (flip_edge c.args.edges.now u v (subst (λ (xs : List (ℕ × ℕ)). IsEdge xs u v) is edge))

pub returns : goal.returns
returns c =
    let is : c.deref.result.now ≡ map flip c.args.edges.now = c.deref.ensures.value ∙ c.in_ok-turned.ensures in
    subst (λ (xs : List (ℕ × ℕ)). IsTable xs c.args.count (rows_of c.in_ok-table.table.items)) is c.in_ok-table.ensures
