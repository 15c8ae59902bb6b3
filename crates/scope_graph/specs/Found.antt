-- The scopes of a graph, found by its nodes in order.
--   IsTarget back h                  an edge of the list leads to h
--   IsKindAt plan back h kind        the kind of the scope whose header is h, or none
--   InBackward table back h n        n is h, or is reached from a source against the edges without h
--   IsMember table back plan ..      the scope of this kind and header holds the node
--   IsFound ..                       the scopes whose headers are below a bound
use Rattle.std.specs.Prelude.{◌≡◌, ◌≢◌, ◌<◌, ℕ, Bool, List, [], ◌⊎◌, Option, None, Some, Contains, length, slice_index_or}
use Rattle.domain_core.specs.declared.scope_kind.ScopeKind.{ScopeKind}
use Rattle.domain_core.specs.declared.scope_kind.ScopeKind.TheVariants.{Call, Loop}
use Rattle.domain_core.specs.declared.outline.ScopeRow.{ScopeRow}
use Rattle.domain_core.specs.Scopes.{Plan, path_at, block_at, Extends, IsCalledFrom}
use Rattle.domain_core.specs.Outlines.{header_of, kind_of}
use Rattle.scope_graph.specs.LoopBodies.{ReturnsBack}
use Rattle.scope_graph.specs.Members.{MarksExactly}

-- an edge of the list leads to h
abbrev pub IsTarget : List (ℕ × ℕ) → ℕ → Type 0
IsTarget back h = (u : ℕ) × Contains back (u, h)

-- the kind of the scope whose header is h, or none
abbrev pub IsKindAt : Plan → List (ℕ × ℕ) → ℕ → Option ScopeKind → Type 0
IsKindAt plan back h None = (block_at plan h ≢ None) × (IsTarget back h → ⊥)
IsKindAt plan back h (Some Call) = block_at plan h ≡ None
IsKindAt plan back h (Some Loop) = (block_at plan h ≢ None) × IsTarget back h

-- n is h, or is reached from a source against the edges without h
abbrev pub InBackward : List (List ℕ) → List (ℕ × ℕ) → ℕ → ℕ → Type 0
InBackward table back h n = (n ≡ h) ⊎ ReturnsBack table back h n

-- the scope of this kind and header holds the node
abbrev pub IsMember : List (List ℕ) → List (ℕ × ℕ) → Plan → ScopeKind → ℕ → ℕ → Type 0
IsMember table back plan Call h n = Extends (path_at plan n) (path_at plan h)
IsMember table back plan Loop h n = (m : ℕ) × InBackward table back h m × ((n ≡ m) ⊎ IsCalledFrom plan m n)

-- the scopes whose headers are below a bound, in the order of headers
pub record IsFound (table : List (List ℕ)) (back : List (ℕ × ℕ)) (plan : Plan) (bound : ℕ) (rows : List ScopeRow)
    (holds : List (List Bool)) : Type 0 where
  pub long : length holds ≡ length rows
  pub below : (s : ℕ) → s < length rows → header_of rows s < bound
  pub kinds : (s : ℕ) → s < length rows → IsKindAt plan back (header_of rows s) (Some (kind_of rows s))
  pub held : (s : ℕ) → s < length rows → MarksExactly (length plan.places) (IsMember table back plan (kind_of rows s) (header_of rows s)) (slice_index_or holds s [])
  pub ascend : (s t : ℕ) → s < t → t < length rows → header_of rows s < header_of rows t
  pub all : (kind : ScopeKind) (h : ℕ) → h < bound → IsKindAt plan back h (Some kind)
      → (s : ℕ) × (s < length rows) × (kind_of rows s ≡ kind) × (header_of rows s ≡ h)
