-- What contracts see of an outline, and what every outline keeps.
--   Outlined              an outline as lists
--   with_cost nodes n cost  the nodes, where one has another cost
--   Shape                 the part of it that costs, names and notes leave as it is
--   shape_of o            the shape of the outline
--   parent_of s           the parent of the scope, and so header_of and kind_of
--   LeadsTo scopes t s    parents lead from the scope s to t
--   Holds o t n           the scope t holds the node n
--   IsChain scopes s chain  the chain is the scope s, its parent, and so on to the outermost
--   scopes_from scopes k s  the first k of the chain
--   scopes_around o n     the scopes that hold the node n, from the outermost to its own
--   is_held o t n         the test for Holds
--   NodeCostsFit nodes    what a visit of each of the nodes costs fits 32 bits
--   CostsFit o            so it is of each node of the outline
--   IsOutline o           what every outline keeps
use Rattle.std.specs.Prelude.{◌≡◌, ◌≢◌, ◌<◌, ◌≤◌, ◌-◌, ◌^◌, ℕ, zero, suc, List, [], ◌∷◌, map, ◌⊎◌, ◌==◌, Bool, reverse, Option, None, Some, AllPairs, length, slice_index, slice_index_or}
use Rattle.std.specs.List.{list_any}
use Rattle.std.specs.Option.{option_map_or}
use Rattle.domain_core.specs.declared.scope_kind.ScopeKind.{ScopeKind}
use Rattle.domain_core.specs.declared.scope_kind.ScopeKind.TheVariants.{Call, Loop}
use Rattle.domain_core.specs.declared.outline.NodeRow.{NodeRow}
use Rattle.domain_core.specs.declared.outline.ScopeRow.{ScopeRow}
use Rattle.domain_core.specs.Reducible.{IsEdge}

-- an outline as lists
pub record Outlined : Type 0 where
  pub edges : List (ℕ × ℕ)
  pub nodes : List NodeRow
  pub scopes : List ScopeRow
  pub notes : List ℕ

-- the nodes, where one has another cost
abbrev pub with_cost : List NodeRow → ℕ → ℕ → List NodeRow
with_cost [] n cost = []
with_cost (row ∷ nodes) zero cost = record row { cost = cost } ∷ nodes
with_cost (row ∷ nodes) (suc n) cost = row ∷ with_cost nodes n cost

-- the edges, the scope and the rank of each node, and the scopes
pub record Shape : Type 0 where
  pub edges : List (ℕ × ℕ)
  pub own : List ℕ
  pub ranks : List ℕ
  pub scopes : List ScopeRow

abbrev pub shape_of : Outlined → Shape
shape_of o = record { edges = o.edges; own = map (λ row. row.scope) o.nodes; ranks = map (λ row. row.rank) o.nodes; scopes = o.scopes }

abbrev pub no_scope : ScopeRow
no_scope = record { parent = None; header = 0; kind = Call }

abbrev pub parent_of : List ScopeRow → ℕ → Option ℕ
parent_of scopes s = (slice_index_or scopes s no_scope).parent

abbrev pub header_of : List ScopeRow → ℕ → ℕ
header_of scopes s = (slice_index_or scopes s no_scope).header

abbrev pub kind_of : List ScopeRow → ℕ → ScopeKind
kind_of scopes s = (slice_index_or scopes s no_scope).kind

-- parents lead from the scope s to t
pub data LeadsTo (scopes : List ScopeRow) (t : ℕ) : ℕ → Type 0 where
  here : LeadsTo scopes t t
  up : {s p : ℕ} → parent_of scopes s ≡ Some p → LeadsTo scopes t p → LeadsTo scopes t s

-- a scope holds the nodes whose own scope leads to it
abbrev pub Holds : Shape → ℕ → ℕ → Type 0
Holds o t n = LeadsTo o.scopes t (slice_index o.own n)

-- the scope s, its parent, and so on to the outermost
pub data IsChain (scopes : List ScopeRow) : ℕ → List ℕ → Type 0 where
  outermost : {s : ℕ} → parent_of scopes s ≡ None → IsChain scopes s (s ∷ [])
  inner : {s p : ℕ} {chain : List ℕ} → parent_of scopes s ≡ Some p → IsChain scopes p chain
      → IsChain scopes s (s ∷ chain)

-- the first k scopes of it
abbrev pub scopes_from : List ScopeRow → ℕ → ℕ → List ℕ
scopes_from scopes zero s = []
scopes_from scopes (suc k) s = s ∷ option_map_or (λ p. scopes_from scopes k p) (parent_of scopes s) []

-- the scopes that hold the node, from the outermost to its own
abbrev pub scopes_around : Shape → ℕ → List ℕ
scopes_around o n = reverse (scopes_from o.scopes (length o.scopes) (slice_index o.own n))

-- the scope t is among the scopes around the node n
abbrev pub is_held : Shape → ℕ → ℕ → Bool
is_held o t n = list_any (λ s. t == s) (scopes_from o.scopes (length o.scopes) (slice_index o.own n))

-- what a visit of each of the nodes costs fits 32 bits
abbrev pub NodeCostsFit : List NodeRow → Type 0
NodeCostsFit nodes = (n : ℕ) → n < length nodes → slice_index (map (λ (row : NodeRow). row.cost) nodes) n < 2 ^ 32

abbrev pub CostsFit : Outlined → Type 0
CostsFit o = NodeCostsFit o.nodes

-- what every outline keeps
pub record IsOutline (o : Shape) : Type 0 where
  pub some : 0 < length o.own
  pub few_nodes : length o.own < 2 ^ 32 - 1
  pub few_edges : length o.edges < 2 ^ 32 - 1
  pub few_scopes : length o.scopes < 2 ^ 32 - 1
  pub a_rank_each : length o.ranks ≡ length o.own
  pub edges_within : (u v : ℕ) → IsEdge o.edges u v → (u < length o.own) × (v ≤ length o.own)
  pub edges_once : AllPairs (λ e f. e ≢ f) o.edges
  pub scopes_within : (n : ℕ) → n < length o.own → slice_index o.own n < length o.scopes
  pub ranks_once : (m n : ℕ) → m < n → n < length o.own → slice_index o.ranks m ≢ slice_index o.ranks n
  pub headers_within : (s : ℕ) → s < length o.scopes → header_of o.scopes s < length o.own
  pub headers_held : (s : ℕ) → s < length o.scopes → Holds o s (header_of o.scopes s)
  pub parents_within : (s p : ℕ) → s < length o.scopes → parent_of o.scopes s ≡ Some p → p < length o.scopes
  pub parents_lead : (s : ℕ) → s < length o.scopes → LeadsTo o.scopes 0 s
  pub first_scope : (header_of o.scopes 0 ≡ 0) × (kind_of o.scopes 0 ≡ Call) × (parent_of o.scopes 0 ≡ None)
  pub first_alone : (s : ℕ) → Holds o s 0 → s ≡ 0
  pub entered : (u v t : ℕ) → IsEdge o.edges u v → v < length o.own → t < length o.scopes → Holds o t v
      → (v ≡ header_of o.scopes t) ⊎ Holds o t u
  pub rises : (u v : ℕ) → IsEdge o.edges u v → v < length o.own → slice_index o.ranks v ≤ slice_index o.ranks u
      → (t : ℕ) × (t < length o.scopes) × (header_of o.scopes t ≡ v) × (kind_of o.scopes t ≡ Loop) × Holds o t u
