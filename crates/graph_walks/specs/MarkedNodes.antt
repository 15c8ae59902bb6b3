-- Marked nodes, and walks that avoid them.
--   IsMarked marks n                the node is marked
--   KeepsMarks old new              what was marked is
--   marked_count marks              how many nodes are marked
--   Avoids marks path               no node of the path is marked
--   ReachesPast Leads marks a b     there is a walk from a to b without a marked node
--   IsBarred Leads marks a b        each walk from a to b has a marked node
--   IsPathPast Leads marks a b path the path is a walk from a to b that has no marked node, and no node twice
use Rattle.std.specs.Prelude.{◌≡◌, ℕ, Bool, true, false, List, count_by, slice_index_or, Contains}
use Rattle.graph_walks.specs.Walks.{Walk, IsDistinct}

-- the node is marked
abbrev pub IsMarked : List Bool → ℕ → Type 0
IsMarked marks n = slice_index_or marks n false ≡ true

-- what was marked is
abbrev pub KeepsMarks : List Bool → List Bool → Type 0
KeepsMarks old new = (n : ℕ) → IsMarked old n → IsMarked new n

-- how many nodes are marked
abbrev pub marked_count : List Bool → ℕ
marked_count marks = count_by (λ mark. mark) marks

-- no node of the path is marked
abbrev pub Avoids : List Bool → List ℕ → Type 0
Avoids marks path = (n : ℕ) → Contains path n → IsMarked marks n → ⊥

-- there is a walk from a to b without a marked node
pub record ReachesPast (Leads : ℕ → ℕ → Type 0) (marks : List Bool) (a b : ℕ) : Type 0 where
  pub path : List ℕ
  pub walk : Walk Leads a b path
  pub avoids : Avoids marks path

-- each walk from a to b has a marked node
abbrev pub IsBarred : (ℕ → ℕ → Type 0) → List Bool → ℕ → ℕ → Type 0
IsBarred Leads marks a b = (path : List ℕ) → Walk Leads a b path → (n : ℕ) × Contains path n × IsMarked marks n

-- the path is a walk from a to b that has no marked node, and no node twice
pub record IsPathPast (Leads : ℕ → ℕ → Type 0) (marks : List Bool) (a b : ℕ) (path : List ℕ) : Type 0 where
  pub walk : Walk Leads a b path
  pub once : IsDistinct path
  pub avoids : Avoids marks path
