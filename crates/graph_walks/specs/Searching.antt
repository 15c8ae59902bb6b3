-- A depth-first search over a table, from a node without a mark.
--   IsFresh row marks first place                       the place has the first node without a mark, from the first place on
--   IsSpread table old from goal new                    the marks have spread to all that the node reaches past the old ones, and the goal was not met
--   IsMet table old from goal path                      the path leads from the node to the goal past the old marks
--   GoesOn row marks looked path node m l p              the search goes on to a node of the row, which is marked
--   GoesBack row marks looked path node m l p            or leaves the last node, where each of its row is marked
--   IsSearch table old from goal marks looked path      what the search keeps
use Rattle.std.specs.Prelude.{◌≡◌, ◌<◌, ◌≤◌, ℕ, Bool, true, false, List, [], ◌∷◌, ◌++◌, ◌⊎◌, Option, Some, Contains, length, slice_index, slice_index_or, slice_set}
use Rattle.graph_walks.specs.Walks.{Walk, IsDistinct}
use Rattle.graph_walks.specs.Tables.{HasEdge}
use Rattle.graph_walks.specs.MarkedNodes.{IsMarked, KeepsMarks, ReachesPast, IsPathPast}

-- the place has the first node without a mark, from the first place on
pub record IsFresh (row : List ℕ) (marks : List Bool) (first place : ℕ) : Type 0 where
  pub from : first ≤ place
  pub within : place < length row
  pub clear : slice_index_or marks (slice_index row place) false ≡ false
  pub before : (k : ℕ) → first ≤ k → k < place → IsMarked marks (slice_index row k)

-- the marks have spread to all that the node reaches past the old ones, and the goal was not met
pub record IsSpread (table : List (List ℕ)) (old : List Bool) (from : ℕ) (goal : Option ℕ)
    (new : List Bool) : Type 0 where
  pub here : IsMarked new from
  pub closed : (n to : ℕ) → IsMarked new n → (IsMarked old n → ⊥) → HasEdge table n to → IsMarked new to
  pub missed : (n : ℕ) → goal ≡ Some n → IsMarked new n → IsMarked old n

-- the path leads from the node to the goal past the old marks
pub record IsMet (table : List (List ℕ)) (old : List Bool) (from : ℕ) (goal : Option ℕ) (path : List ℕ) : Type 0 where
  pub last : ℕ
  pub is_goal : goal ≡ Some last
  pub leads : IsPathPast (HasEdge table) old from last path

-- the search goes on to a node of the row, which is marked
pub record GoesOn (row : List ℕ) (node : ℕ) (marks : List Bool) (looked path : List ℕ) (new_marks : List Bool)
    (new_looked new_path : List ℕ) : Type 0 where
  pub place : ℕ
  pub is_fresh : IsFresh row marks (slice_index looked node) place
  pub marked : new_marks ≡ slice_set marks (slice_index row place) true
  pub noted : new_looked ≡ slice_set looked node place
  pub longer : new_path ≡ path ++ slice_index row place ∷ []

-- or leaves the last node, where each of its row is marked
pub record GoesBack (row : List ℕ) (node : ℕ) (marks : List Bool) (looked path : List ℕ) (new_marks : List Bool)
    (new_looked new_path : List ℕ) : Type 0 where
  pub all : (k : ℕ) → slice_index looked node ≤ k → k < length row → IsMarked marks (slice_index row k)
  pub same_marks : new_marks ≡ marks
  pub same_looked : new_looked ≡ looked
  pub shorter : (front : List ℕ) (last : ℕ) → path ≡ front ++ last ∷ [] → new_path ≡ front

-- What the search keeps: the path leads to the node that it stands at, all that is marked is reached, and where a node
-- has left the path all to which it leads is marked.
pub record IsSearch (table : List (List ℕ)) (old : List Bool) (from : ℕ) (goal : Option ℕ) (marks : List Bool)
    (looked path : List ℕ) : Type 0 where
  pub long : length marks ≡ length table
  pub rows : length looked ≡ length table
  pub kept : KeepsMarks old marks
  pub here : IsMarked marks from
  pub reached : (n : ℕ) → IsMarked marks n → (IsMarked old n → ⊥) → ReachesPast (HasEdge table) old from n
  pub walk : (front : List ℕ) (last : ℕ) → path ≡ front ++ last ∷ [] → Walk (HasEdge table) from last path
  pub once : IsDistinct path
  pub fresh : (n : ℕ) → Contains path n → IsMarked marks n × (IsMarked old n → ⊥)
  pub left : (n to : ℕ) → IsMarked marks n → (IsMarked old n → ⊥) → HasEdge table n to
      → Contains path n ⊎ IsMarked marks to
  pub looked_at : (n k : ℕ) → k < slice_index looked n → k < length (slice_index_or table n [])
      → IsMarked marks (slice_index (slice_index_or table n []) k)
  pub missed : (n : ℕ) → goal ≡ Some n → IsMarked marks n → (IsMarked old n → ⊥)
      → (front : List ℕ) × (path ≡ front ++ n ∷ [])
