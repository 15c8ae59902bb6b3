-- The depth-first walk from node 0, which notes the edges that lead back to its path.
-- The path is the walk at hand. Of the nodes that the walk has left, the order has the last one first.
--   IsLooked table back order u v            the edge from u to v is noted, or v was left before u; and it is noted where v lies on every walk to u
--   IsSettled table back order               so is each edge from a node that was left
--   IsDescent table seen path back order     what the walk keeps
--   IsVisited ..                             what a visit of a node leaves
--   IsChecked ..                             what a look at an edge leaves
--   IsBackList table back                    exactly the back edges are noted
--   IsDescentAnswer table answer             the answer is the back edges of a graph in which all other edges fall, or walks that cross
use Rattle.std.specs.Prelude.{◌≡◌, ℕ, Bool, List, [], ◌∷◌, ◌++◌, ◌⊎◌, Contains}
use Rattle.domain_core.specs.Reducible.{Dominates, IsBackEdge, IsCrossing, IsFalling}
use Rattle.graph_walks.specs.Walks.{IsDistinct}
use Rattle.scope_graph.specs.declared.crossing.Crossing.{Crossing}
use Rattle.scope_graph.specs.declared.descend.Descent.{Descent}
use Rattle.scope_graph.specs.declared.descend.Descent.TheVariants.{Back, Crosses}
use Rattle.graph_walks.specs.Tables.{HasEdge}
use Rattle.graph_walks.specs.MarkedNodes.{IsMarked}

-- the edge is noted, or v was left before u; and it is noted where v lies on every walk to u
abbrev pub IsLooked : List (List ℕ) → List (ℕ × ℕ) → List ℕ → ℕ → ℕ → Type 0
IsLooked table back order u v = (Contains back (u, v) ⊎ Contains order v) × (Dominates (HasEdge table) v u → Contains back (u, v))

-- so is each edge from a node that was left
abbrev pub IsSettled : List (List ℕ) → List (ℕ × ℕ) → List ℕ → Type 0
IsSettled table back [] = Unit {0}
IsSettled table back (u ∷ order) = ((v : ℕ) → HasEdge table u v → IsLooked table back order u v) × IsSettled table back order

-- what the walk keeps
pub record IsDescent (table : List (List ℕ)) (seen : List Bool) (path : List ℕ) (back : List (ℕ × ℕ))
    (order : List ℕ) : Type 0 where
  pub on_path : (n : ℕ) → Contains path n → IsMarked seen n
  pub left : (n : ℕ) → Contains order n → IsMarked seen n
  pub either : (n : ℕ) → IsMarked seen n → Contains path n ⊎ Contains order n
  pub once : IsDistinct path
  pub settled : IsSettled table back order
  pub backs : (u h : ℕ) → Contains back (u, h) → IsBackEdge (HasEdge table) u h

-- what a visit of a node leaves
pub record IsVisited (table : List (List ℕ)) (node : ℕ) (old new : List Bool) (before after : List ℕ)
    (back more : List (ℕ × ℕ)) : Type 0 where
  pub order : List ℕ
  pub descent : IsDescent table new before more order
  pub same : after ≡ before
  pub kept : (n : ℕ) → IsMarked old n → IsMarked new n
  pub here : IsMarked new node
  pub noted : (u h : ℕ) → Contains back (u, h) → Contains more (u, h)

-- what a look at an edge to a marked node leaves: it is noted where it leads back to the path
abbrev pub IsChecked : List (List ℕ) → List ℕ → ℕ → ℕ → List (ℕ × ℕ) → List (ℕ × ℕ) → Type 0
IsChecked table path node next back more =
    (Dominates (HasEdge table) next node × (more ≡ back ++ (node, next) ∷ [])) ⊎ ((Contains path next → ⊥) × (more ≡ back))

-- three walks that cross
abbrev pub Crosses_in : List (List ℕ) → Crossing → Type 0
Crosses_in table crossing = IsCrossing (HasEdge table) crossing.to_header.items crossing.to_tail.items crossing.around.items

-- exactly the back edges are noted
pub record IsBackList (Leads : ℕ → ℕ → Type 0) (back : List (ℕ × ℕ)) : Type 0 where
  pub backs : (u h : ℕ) → Contains back (u, h) → IsBackEdge Leads u h
  pub all : (u h : ℕ) → IsBackEdge Leads u h → Contains back (u, h)

-- the answer is the back edges of a graph in which all other edges fall, or walks that cross
abbrev pub IsDescentAnswer : List (List ℕ) → Descent → Type 0
IsDescentAnswer table (Back back) = IsBackList (HasEdge table) back.items × ((number : ℕ → ℕ) × IsFalling (HasEdge table) number)
IsDescentAnswer table (Crosses crossing) = Crosses_in table crossing
