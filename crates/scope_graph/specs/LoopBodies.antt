-- The bodies of loops, as marks.
--   ReturnsBack table back h n      against the edges the node is reached from a source of a back edge to h, without h
--   IsBackward table back h seen    h and exactly such nodes are marked
use Rattle.std.specs.Prelude.{◌≡◌, ℕ, Bool, List, ◌⊎◌, Contains, length}
use Rattle.graph_walks.specs.Walks.{Walk}
use Rattle.graph_walks.specs.Tables.{HasEdge}
use Rattle.graph_walks.specs.MarkedNodes.{IsMarked}

-- against the edges the node is reached from a source of a back edge to h, without h
pub record ReturnsBack (table : List (List ℕ)) (back : List (ℕ × ℕ)) (h n : ℕ) : Type 0 where
  pub source : ℕ
  pub path : List ℕ
  pub noted : Contains back (source, h)
  pub walk : Walk (HasEdge table) source n path
  pub avoids : Contains path h → ⊥

-- h and exactly such nodes are marked
pub record IsBackward (table : List (List ℕ)) (back : List (ℕ × ℕ)) (h : ℕ) (seen : List Bool) : Type 0 where
  pub long : length seen ≡ length table
  pub marked : (n : ℕ) → IsMarked seen n → (n ≡ h) ⊎ ReturnsBack table back h n
  pub all : (n : ℕ) → (n ≡ h) ⊎ ReturnsBack table back h n → IsMarked seen n
