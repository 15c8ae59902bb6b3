-- The parts of an outline.
--   flip edge           the edge read from its end
--   IsParented k ..     the first k scopes have their parents
--   IsOwned k ..        the first k nodes have their scopes, ranks and names, and cost 0
--   IsFresh names o     the nodes have these names and cost 0, and there are no notes
use Rattle.std.specs.Prelude.{◌≡◌, ◌<◌, ℕ, Bool, List, [], None, Some, map, take, length, slice_index, All}
use Rattle.domain_core.specs.declared.outline.NodeRow.{NodeRow}
use Rattle.domain_core.specs.declared.outline.ScopeRow.{ScopeRow}
use Rattle.domain_core.specs.Outlines.{Outlined, header_of, kind_of, parent_of}
use Rattle.scope_graph.specs.Inner.{IsInnermost}

-- the edge read from its end
abbrev pub flip : ℕ × ℕ → ℕ × ℕ
flip edge = (edge.1, edge.0)

-- the first k scopes have their parents
pub record IsParented (k : ℕ) (rows : List ScopeRow) (holds : List (List Bool)) (ranks : List ℕ)
    (scopes : List ScopeRow) : Type 0 where
  pub long : length scopes ≡ k
  pub headers : (s : ℕ) → s < k → header_of scopes s ≡ header_of rows s
  pub kinds : (s : ℕ) → s < k → kind_of scopes s ≡ kind_of rows s
  pub parents : (s : ℕ) → s < k
      → IsInnermost (length rows) rows holds ranks (Some s) (header_of rows s) (parent_of scopes s)

-- the first k nodes have their scopes, ranks and names, and cost 0
pub record IsOwned (k : ℕ) (names : List (List ℕ)) (rows : List ScopeRow) (holds : List (List Bool)) (ranks : List ℕ)
    (nodes : List NodeRow) : Type 0 where
  pub long : length nodes ≡ k
  pub own : (n : ℕ) → n < k
      → IsInnermost (length rows) rows holds ranks None n (Some (slice_index (map (λ row. row.scope) nodes) n))
  pub ranked : (n : ℕ) → n < k → slice_index (map (λ row. row.rank) nodes) n ≡ slice_index ranks n
  pub named : map (λ row. row.name.items) nodes ≡ take k names
  pub free : All (λ row. row.cost ≡ 0) nodes

-- the nodes have these names and cost 0, and there are no notes
pub record IsFresh (names : List (List ℕ)) (o : Outlined) : Type 0 where
  pub named : map (λ row. row.name.items) o.nodes ≡ names
  pub free : All (λ row. row.cost ≡ 0) o.nodes
  pub no_notes : o.notes ≡ []
