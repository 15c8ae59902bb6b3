-- The outline of a graph.
--   scope_holds plan scopes s n     the scope of that number holds the node
--   scope_inside plan scopes s t    each node of the scope s lies in t
--   IsParent plan scopes s parent   it is the smallest other scope around s, or there is none
--   IsOutlineOf plan o              the edges, ranks and scopes are those of the graph
use Rattle.std.specs.Prelude.{◌≡◌, ◌≢◌, ◌<◌, ℕ, List, Option, None, Some, length, slice_index}
use Rattle.domain_core.specs.declared.scope_kind.ScopeKind.{ScopeKind}
use Rattle.domain_core.specs.declared.outline.ScopeRow.{ScopeRow}
use Rattle.domain_core.specs.Reducible.{IsRanking}
use Rattle.domain_core.specs.Scopes.{Plan, leads, InScope, IsHeader, IsInside, IsSmallest}
use Rattle.domain_core.specs.Outlines.{Shape, header_of, kind_of, parent_of}

-- the scope of that number holds the node
abbrev pub scope_holds : Plan → List ScopeRow → ℕ → ℕ → Type 0
scope_holds plan scopes s n = InScope plan (kind_of scopes s) (header_of scopes s) n

-- each node of the scope s lies in t
abbrev pub scope_inside : Plan → List ScopeRow → ℕ → ℕ → Type 0
scope_inside plan scopes s t = IsInside plan (kind_of scopes s) (header_of scopes s) (kind_of scopes t) (header_of scopes t)

-- it is the smallest other scope around s, or there is none
abbrev pub IsParent : Plan → List ScopeRow → ℕ → Option ℕ → Type 0
IsParent plan scopes s None = (t : ℕ) → t < length scopes → t ≢ s → scope_inside plan scopes s t → ⊥
IsParent plan scopes s (Some p) =
    (p < length scopes) × (p ≢ s) × scope_inside plan scopes s p × ((t : ℕ) → t < length scopes → t ≢ s → scope_inside plan scopes s t → scope_inside plan scopes p t)

-- the edges, ranks and scopes are those of the graph
pub record IsOutlineOf (plan : Plan) (o : Shape) : Type 0 where
  pub edges : o.edges ≡ plan.edges
  pub one_each : length o.own ≡ length plan.places
  pub ranked : IsRanking (leads plan) (length plan.places) o.ranks
  pub headers : (s : ℕ) → s < length o.scopes → IsHeader plan (kind_of o.scopes s) (header_of o.scopes s)
  pub all : (kind : ScopeKind) (h : ℕ) → IsHeader plan kind h
      → (s : ℕ) × (s < length o.scopes) × (kind_of o.scopes s ≡ kind) × (header_of o.scopes s ≡ h)
  pub ascend : (s t : ℕ) → s < t → t < length o.scopes → header_of o.scopes s < header_of o.scopes t
  pub own : (n : ℕ) → n < length plan.places
      → (slice_index o.own n < length o.scopes)
      × IsSmallest plan (kind_of o.scopes (slice_index o.own n)) (header_of o.scopes (slice_index o.own n)) n
  pub parents : (s : ℕ) → s < length o.scopes → IsParent plan o.scopes s (parent_of o.scopes s)
