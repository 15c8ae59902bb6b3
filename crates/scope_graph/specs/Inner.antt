-- The innermost of the scopes that hold a node: the one whose header has the greatest rank.
--   lists_of holds                     what the code's marks stand for
--   IsHeld holds s n                   the scope s holds the node
--   IsGrid rows holds count            each scope has marks for each node
--   rank_of rows ranks s               the rank of the scope's header
--   IsCandidate holds except n s       the scope holds the node, and is not the one that is left out
--   IsInnermost k .. best              of the scopes below k that are candidates, it is the one of greatest rank
use Rattle.std.specs.Prelude.{◌≡◌, ◌<◌, ◌≤◌, ℕ, Bool, List, [], Option, None, Some, Vec, map, length, slice_index, slice_index_or}
use Rattle.std.specs.declared.alloc.Global.{Global}
use Rattle.domain_core.specs.declared.outline.ScopeRow.{ScopeRow}
use Rattle.domain_core.specs.Outlines.{header_of}
use Rattle.graph_walks.specs.MarkedNodes.{IsMarked}

-- what the code's marks stand for
abbrev pub lists_of : List (Vec Bool Global) → List (List Bool)
lists_of holds = map (λ marks. marks.items) holds

-- the scope s holds the node
abbrev pub IsHeld : List (List Bool) → ℕ → ℕ → Type 0
IsHeld holds s n = IsMarked (slice_index_or holds s []) n

-- each scope has marks for each node, and its header is a node
pub record IsGrid (rows : List ScopeRow) (holds : List (List Bool)) (count : ℕ) : Type 0 where
  pub long : length holds ≡ length rows
  pub wide : (s : ℕ) → s < length rows → length (slice_index_or holds s []) ≡ count
  pub headers : (s : ℕ) → s < length rows → header_of rows s < count

-- the rank of the scope's header
abbrev pub rank_of : List ScopeRow → List ℕ → ℕ → ℕ
rank_of rows ranks s = slice_index ranks (header_of rows s)

-- the scope holds the node, and is not the one that is left out
abbrev pub IsCandidate : List (List Bool) → Option ℕ → ℕ → ℕ → Type 0
IsCandidate holds except n s = IsHeld holds s n × (except ≡ Some s → ⊥)

-- of the scopes below k that are candidates, it is the one of greatest rank, or there is none
abbrev pub IsInnermost : ℕ → List ScopeRow → List (List Bool) → List ℕ → Option ℕ → ℕ → Option ℕ → Type 0
IsInnermost k rows holds ranks except n None = (s : ℕ) → s < k → IsCandidate holds except n s → ⊥
IsInnermost k rows holds ranks except n (Some b) =
    (b < k) × IsCandidate holds except n b × ((s : ℕ) → s < k → IsCandidate holds except n s → rank_of rows ranks s ≤ rank_of rows ranks b)
