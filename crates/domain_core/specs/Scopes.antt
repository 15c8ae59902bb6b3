-- The scopes of a graph whose nodes have places in a program. A place is a call path, the blocks of the calls that lead
-- to a function instance, the newest call first, and a block of that function or, at its entry, none.
--   Plan                        the edges, and for each node its place; the end of runs is the number of nodes
--   leads plan u v              an edge leads from u to v
--   path_at plan n              the call path of the node
--   block_at plan n             its block
--   Extends path start          the path has further calls than the start, or none
--   IsPlan plan                 what the graph of an expanded program keeps
--   IsReturning plan h n        the node reaches a source of a back edge to h without passing h
--   IsBody plan h n             it is h, or does so
--   IsCalledFrom plan m n       the node lies in the instance that m calls
--   InScope plan kind h n       the scope of this kind and header holds the node
--   IsHeader plan kind h        h is the header of a scope of this kind
--   IsInside plan k g l h       the scope of kind k and header g lies in that of kind l and header h
--   IsSmallest plan kind h n    no smaller scope holds the node
use Rattle.std.specs.Prelude.{◌≡◌, ◌≢◌, ◌<◌, ◌≤◌, ℕ, List, [], ◌∷◌, ◌++◌, ◌⊎◌, Option, None, Some, Contains, length, slice_index_or}
use Rattle.graph_walks.specs.Walks.{Walk}
use Rattle.domain_core.specs.Reducible.{IsEdge, IsBackEdge}
use Rattle.domain_core.specs.declared.scope_kind.ScopeKind.{ScopeKind}
use Rattle.domain_core.specs.declared.scope_kind.ScopeKind.TheVariants.{Call, Loop}

pub record Place : Type 0 where
  pub path : List ℕ
  pub block : Option ℕ

pub record Plan : Type 0 where
  pub edges : List (ℕ × ℕ)
  pub places : List Place

-- an edge leads from u to v
abbrev pub leads : Plan → ℕ → ℕ → Type 0
leads plan u v = IsEdge plan.edges u v

abbrev pub nowhere : Place
nowhere = record { path = []; block = None }

-- the call path of the node, and its block
abbrev pub path_at : Plan → ℕ → List ℕ
path_at plan n = (slice_index_or plan.places n nowhere).path

abbrev pub block_at : Plan → ℕ → Option ℕ
block_at plan n = (slice_index_or plan.places n nowhere).block

-- the path has further calls than the start, or none
abbrev pub Extends : List ℕ → List ℕ → Type 0
Extends path start = (calls : List ℕ) × (path ≡ calls ++ start)

-- an edge inside an instance, to the entry of a called one, or back from it
pub data IsStep (plan : Plan) (u v : ℕ) : Type 0 where
  inside : path_at plan u ≡ path_at plan v → block_at plan v ≢ None → IsStep plan u v
  calls : (b : ℕ) → block_at plan u ≡ Some b → path_at plan v ≡ b ∷ path_at plan u → block_at plan v ≡ None
      → IsStep plan u v
  returns_from : (b : ℕ) → path_at plan u ≡ b ∷ path_at plan v → block_at plan v ≢ None → IsStep plan u v

-- what the graph of an expanded program keeps
pub record IsPlan (plan : Plan) : Type 0 where
  pub some : 0 < length plan.places
  pub first_path : path_at plan 0 ≡ []
  pub first_block : block_at plan 0 ≡ None
  pub within : (u v : ℕ) → leads plan u v → (u < length plan.places) × (v ≤ length plan.places)
  pub reached : (n : ℕ) → n < length plan.places → (path : List ℕ) × Walk (leads plan) 0 n path
  pub apart : (m n : ℕ) → m < length plan.places → n < length plan.places → path_at plan m ≡ path_at plan n
      → block_at plan m ≡ block_at plan n → m ≡ n
  pub steps : (u v : ℕ) → leads plan u v → v < length plan.places → IsStep plan u v

-- the node reaches a source of a back edge to h without passing h
pub record IsReturning (plan : Plan) (h n : ℕ) : Type 0 where
  pub source : ℕ
  pub way : List ℕ
  pub back : IsBackEdge (leads plan) source h
  pub walk : Walk (leads plan) n source way
  pub avoids : Contains way h → ⊥

-- it is h, or does so
abbrev pub IsBody : Plan → ℕ → ℕ → Type 0
IsBody plan h n = (n ≡ h) ⊎ IsReturning plan h n

-- the node lies in the instance that m calls
abbrev pub IsCalledFrom : Plan → ℕ → ℕ → Type 0
IsCalledFrom plan m n = (b : ℕ) × (block_at plan m ≡ Some b) × Extends (path_at plan n) (b ∷ path_at plan m)

-- The scope holds the node. A call scope is an instance with all that it calls; a loop scope is a loop's body with all
-- that it calls.
abbrev pub InScope : Plan → ScopeKind → ℕ → ℕ → Type 0
InScope plan Call h n = Extends (path_at plan n) (path_at plan h)
InScope plan Loop h n = (m : ℕ) × IsBody plan h m × ((n ≡ m) ⊎ IsCalledFrom plan m n)

-- h is the header of a scope of this kind
abbrev pub IsHeader : Plan → ScopeKind → ℕ → Type 0
IsHeader plan Call h = (h < length plan.places) × (block_at plan h ≡ None)
IsHeader plan Loop h = (u : ℕ) × IsBackEdge (leads plan) u h

-- each node of the first scope lies in the second
abbrev pub IsInside : Plan → ScopeKind → ℕ → ScopeKind → ℕ → Type 0
IsInside plan k g l h = (n : ℕ) → n < length plan.places → InScope plan k g n → InScope plan l h n

-- the scope holds the node, and lies in each other that does
pub record IsSmallest (plan : Plan) (kind : ScopeKind) (h n : ℕ) : Type 0 where
  pub header : IsHeader plan kind h
  pub holds : InScope plan kind h n
  pub least : (l : ScopeKind) (g : ℕ) → IsHeader plan l g → InScope plan l g n → IsInside plan kind h l g
