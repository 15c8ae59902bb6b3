-- Walks along the edges of a graph. A graph is a relation on nodes: u leads to v.
--   Walk Leads a b path   the path lists the nodes of a walk from a to b, both ends included
--   Reaches Leads a b     there is a walk from a to b
--   IsDistinct path       no node stands twice in the path
use Rattle.std.specs.Prelude.{◌≢◌, ℕ, List, [], ◌∷◌, ◌++◌, AllPairs}

-- a walk from a, written with each of its nodes in order: it grows at its end
pub data Walk (Leads : ℕ → ℕ → Type 0) (a : ℕ) : ℕ → List ℕ → Type 0 where
  stays : Walk Leads a a (a ∷ [])
  goes_on : {u v : ℕ} {path : List ℕ} → Walk Leads a u path → Leads u v → Walk Leads a v (path ++ v ∷ [])

-- there is a walk from a to b
abbrev pub Reaches : (ℕ → ℕ → Type 0) → ℕ → ℕ → Type 0
Reaches Leads a b = (path : List ℕ) × Walk Leads a b path

-- no node stands twice in the path
abbrev pub IsDistinct : List ℕ → Type 0
IsDistinct path = AllPairs (λ u v. u ≢ v) path
