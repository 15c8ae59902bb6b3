-- The nodes of scopes, as marks.
--   Tells v P                     the test passes exactly where P holds
--   MarksExactly count P marks    of the nodes below count exactly those are marked of which P holds
--   IsCalled plan body n          the node lies in an instance that a marked one calls
--   IsTaken plan body n           the node is marked, or lies in an instance that a marked one calls
use Rattle.std.specs.Prelude.{◌≡◌, ◌<◌, ℕ, Bool, true, false, List, ◌⊎◌, length}
use Rattle.graph_walks.specs.MarkedNodes.{IsMarked}
use Rattle.domain_core.specs.Scopes.{Plan, IsCalledFrom}

-- the test passes exactly where P holds
abbrev pub Tells : Bool → Type 0 → Type 0
Tells v P = (v ≡ true → P) × (v ≡ false → P → ⊥)

-- of the nodes below count exactly those are marked of which P holds
pub record MarksExactly (count : ℕ) (P : ℕ → Type 0) (marks : List Bool) : Type 0 where
  pub long : length marks ≡ count
  pub yes : (n : ℕ) → IsMarked marks n → P n
  pub all : (n : ℕ) → n < count → P n → IsMarked marks n

-- the node lies in an instance that a marked one calls
abbrev pub IsCalled : Plan → List Bool → ℕ → Type 0
IsCalled plan body n = (m : ℕ) × IsMarked body m × IsCalledFrom plan m n

-- the node is marked, or lies in an instance that a marked one calls
abbrev pub IsTaken : Plan → List Bool → ℕ → Type 0
IsTaken plan body n = (m : ℕ) × IsMarked body m × ((n ≡ m) ⊎ IsCalledFrom plan m n)
