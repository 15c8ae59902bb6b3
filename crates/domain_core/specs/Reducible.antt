-- Graphs that are reducible, and the ranks of their nodes. A graph is a relation on nodes: u leads to v. Of a list of
-- edges it is `IsEdge edges`. Runs begin at node 0. The end of runs is a number to which edges lead and from which none
-- does.
--   IsEdge edges u v                 an edge leads from u to v
--   Dominates Leads h u              h lies on every walk from node 0 to u
--   IsReducible Leads                each closed walk has a node that lies on every walk from node 0 to any node of it
--   IsBackEdge Leads u h             an edge from u to a node that lies on every walk to u
--   IsForwardEdge Leads u v          an edge that is no back edge
--   IsDecidedBack Leads              it is decided which edges are back edges
--   IsCrossing Leads header tail round  three walks that show an edge back to a node h and a way to its source past h
--   IsFalling Leads number           each edge goes to a lower number, or is a back edge
--   IsReady Leads rank r n           each edge to n that is no back edge comes from a node of a rank below r
--   IsRanking Leads nodes ranks      the next rank goes to the least node that is ready and has none
use Rattle.std.specs.Prelude.{◌≡◌, ◌≢◌, ◌<◌, ℕ, List, [], ◌∷◌, ◌++◌, ◌⊎◌, Contains, length, slice_index}
use Rattle.graph_walks.specs.Walks.{Walk, IsDistinct}

-- an edge leads from u to v
abbrev pub IsEdge : List (ℕ × ℕ) → ℕ → ℕ → Type 0
IsEdge edges u v = Contains edges (u, v)

-- h lies on every walk from node 0 to u
abbrev pub Dominates : (ℕ → ℕ → Type 0) → ℕ → ℕ → Type 0
Dominates Leads h u = (path : List ℕ) → Walk Leads 0 u path → Contains path h

-- Each closed walk, from v to u and by an edge back to v, has a node that lies on every walk from node 0 to any node of
-- it.
abbrev pub IsReducible : (ℕ → ℕ → Type 0) → Type 0
IsReducible Leads =
    (u v : ℕ) (path : List ℕ) → Walk Leads v u path → Leads u v → (h : ℕ) × Contains path h × ((n : ℕ) → Contains path n → Dominates Leads h n)

-- an edge to a node that lies on every walk to its source
abbrev pub IsBackEdge : (ℕ → ℕ → Type 0) → ℕ → ℕ → Type 0
IsBackEdge Leads u h = Leads u h × Dominates Leads h u

-- an edge that is no back edge
abbrev pub IsForwardEdge : (ℕ → ℕ → Type 0) → ℕ → ℕ → Type 0
IsForwardEdge Leads u v = Leads u v × (Dominates Leads v u → ⊥)

-- it is decided which edges are back edges
abbrev pub IsDecidedBack : (ℕ → ℕ → Type 0) → Type 0
IsDecidedBack Leads = (u v : ℕ) → Leads u v → Dominates Leads v u ⊎ (Dominates Leads v u → ⊥)

-- Three walks that refute reducibility: from node 0 to h, on to u, from which an edge leads back to h, and from node 0
-- to u without h.
pub record IsCrossing (Leads : ℕ → ℕ → Type 0) (to_header to_tail around : List ℕ) : Type 0 where
  pub h : ℕ
  pub u : ℕ
  pub prefix : List ℕ
  pub rest : List ℕ
  pub to_h : Walk Leads 0 h to_header
  pub to_u : Walk Leads h u to_tail
  pub leads_back : Leads u h
  pub past_h : Walk Leads 0 u around
  pub without_h : Contains around h → ⊥
  pub header_is : to_header ≡ prefix ++ h ∷ []
  pub tail_is : to_tail ≡ h ∷ rest
  pub once : IsDistinct (prefix ++ h ∷ rest)

-- each edge goes to a lower number, or back to a node that lies on every walk to its source
abbrev pub IsFalling : (ℕ → ℕ → Type 0) → (ℕ → ℕ) → Type 0
IsFalling Leads number = (u v : ℕ) → Leads u v → Dominates Leads v u ⊎ (number v < number u)

-- each edge to n that is no back edge comes from a node of a rank below r
abbrev pub IsReady : (ℕ → ℕ → Type 0) → (ℕ → ℕ) → ℕ → ℕ → Type 0
IsReady Leads rank r n = (u : ℕ) → IsForwardEdge Leads u n → rank u < r

-- Ranks number the nodes from 0: the next rank goes to the least node without a rank that is ready.
pub record IsRanking (Leads : ℕ → ℕ → Type 0) (nodes : ℕ) (ranks : List ℕ) : Type 0 where
  pub one_each : length ranks ≡ nodes
  pub within : (n : ℕ) → n < nodes → slice_index ranks n < nodes
  pub once : (m n : ℕ) → m < n → n < nodes → slice_index ranks m ≢ slice_index ranks n
  pub ready : (n : ℕ) → n < nodes → IsReady Leads (slice_index ranks) (slice_index ranks n) n
  pub least : (m n : ℕ) → m < n → n < nodes → slice_index ranks n < slice_index ranks m
      → IsReady Leads (slice_index ranks) (slice_index ranks n) m → ⊥
