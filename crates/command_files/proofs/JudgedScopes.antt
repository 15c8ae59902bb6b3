-- The scopes of a graph, or walks that cross, are its only meaning.
use Rattle.std.proofs.Common.{◌≡◌, ℕ, List, Result, Ok, Err, subst}
use Rattle.domain_core.specs.Outlines.{Outlined, shape_of}
use Rattle.domain_core.specs.OutlineOf.{IsOutlineOf}
use Rattle.domain_core.specs.Reducible.{IsEdge, IsReducible, IsCrossing}
use Rattle.flow_graph.specs.Numbering.{GraphParts}
use Rattle.flow_graph.specs.Graphs.{HasProgram}
use Rattle.scope_graph.specs.Placing.{plan_of}
use Rattle.scope_graph.specs.Laws.{HasOneOutline}
use Rattle.command_plans.specs.Outcome.{Outcome, AreAlikeResults}
use Rattle.command_plans.specs.Work.{IsOnly}
use Rattle.command_files.specs.Scopes.{Scoped, IsScoped, ScopesMean}
use Rattle.command_files.specs.Seen.{scopes_seen}

-- three walks that cross show that a graph is not reducible
abbrev pub CrossingsRefute : Type 0
CrossingsRefute = (edges : List (ℕ × ℕ)) (a b c : List ℕ) → IsCrossing (IsEdge edges) a b c → IsReducible (IsEdge edges) → ⊥

module _ (graph : GraphParts) where
  -- an outline of the graph gives its scopes
  scoped_of_outline : (o : Outlined) → IsOutlineOf (plan_of graph) (shape_of o) → IsReducible (IsEdge graph.edges)
      → IsScoped graph (scopes_seen o)
  scoped_of_outline o is reducible =
      let shape = shape_of o in
      let same : shape ≡ record { edges = graph.edges; own = shape.own; ranks = shape.ranks; scopes = shape.scopes } =
      λ i. record { edges = is.edges i; own = shape.own; ranks = shape.ranks; scopes = shape.scopes } in
      record { ranks = shape.ranks; outline = subst (IsOutlineOf (plan_of graph)) same is; reducible = reducible }

  scopes_one : HasOneOutline → HasProgram graph → (a b : Scoped) → IsScoped graph a → IsScoped graph b → a ≡ b
  scopes_one one has a b h k =
      let same = one graph _ _ has h.outline k.outline in
      λ i. record { own = same.own i; scopes = same.scopes i }

  pub scoped_only : HasOneOutline → CrossingsRefute → HasProgram graph → (o : Outlined)
      → IsOutlineOf (plan_of graph) (shape_of o) → IsReducible (IsEdge graph.edges)
      → IsOnly (ScopesMean graph) (Ok (scopes_seen o))
  scoped_only one refute has o is reducible = record { means = scoped_of_outline o is reducible; only = only }
    where
      only : (y : Result Scoped Outcome) → ScopesMean graph y → AreAlikeResults (Ok (scopes_seen o)) y
      only (Ok other) k = scopes_one one has (scopes_seen o) other (scoped_of_outline o is reducible) k
      only (Err p) k = refute graph.edges k.to_header k.to_tail k.around k.crossing reducible
