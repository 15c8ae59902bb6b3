-- Ranks, given one after the other. A node that has none yet holds the number of nodes.
--   Into table u n                           the row of n has u
--   IsDue Before rank r n                    each node before n has a rank below r
--   missing count ranks                      how many nodes have no rank
--   IsStage Before count r ranks             the ranks below r are given by the rule
--   IsChoice Before count r ranks n          the rank r is due to the node
--   IsWithin edges count                     each edge leads from a node to a node or the end
--   is_noted back edge                       the edge is one of these
--   is_forward back edge                     it is none
use Rattle.std.specs.Prelude.{◌≡◌, ◌≢◌, ◌<◌, ◌≤◌, ◌+◌, ◌==◌, ◌&&◌, not, ℕ, suc, Bool, List, [], ◌∷◌, ◌⊎◌, length, slice_index, if◌then◌else◌}
use Rattle.std.specs.List.{list_any}
use Rattle.graph_walks.specs.Tables.{HasEdge}
use Rattle.domain_core.specs.Reducible.{IsEdge}

-- the row of n has u
abbrev pub Into : List (List ℕ) → ℕ → ℕ → Type 0
Into table u n = HasEdge table n u

-- each node before n has a rank below r
abbrev pub IsDue : (ℕ → ℕ → Type 0) → (ℕ → ℕ) → ℕ → ℕ → Type 0
IsDue Before rank r n = (u : ℕ) → Before u n → rank u < r

-- how many nodes have no rank
abbrev pub missing : ℕ → List ℕ → ℕ
missing count [] = 0
missing count (rank ∷ ranks) = if rank == count then suc (missing count ranks) else missing count ranks

-- the ranks below r are given by the rule
pub record IsStage (Before : ℕ → ℕ → Type 0) (count r : ℕ) (ranks : List ℕ) : Type 0 where
  pub long : length ranks ≡ count
  pub left : missing count ranks + r ≡ count
  pub each : (n : ℕ) → n < count → (slice_index ranks n < r) ⊎ (slice_index ranks n ≡ count)
  pub once : (m n : ℕ) → m < n → n < count → slice_index ranks n < r → slice_index ranks m ≢ slice_index ranks n
  pub ready : (n : ℕ) → n < count → slice_index ranks n < r → IsDue Before (slice_index ranks) (slice_index ranks n) n
  pub least : (m n : ℕ) → m < n → n < count → slice_index ranks n < r → slice_index ranks n < slice_index ranks m
      → IsDue Before (slice_index ranks) (slice_index ranks n) m → ⊥

-- the rank r is due to the node: it is the least that is ready and has none
pub record IsChoice (Before : ℕ → ℕ → Type 0) (count r : ℕ) (ranks : List ℕ) (n : ℕ) : Type 0 where
  pub inside : n < count
  pub open_still : slice_index ranks n ≡ count
  pub ready : IsDue Before (slice_index ranks) r n
  pub least : (m : ℕ) → m < n → slice_index ranks m ≡ count → IsDue Before (slice_index ranks) r m → ⊥

-- each edge leads from a node to a node or the end
abbrev pub IsWithin : List (ℕ × ℕ) → ℕ → Type 0
IsWithin edges count = (u v : ℕ) → IsEdge edges u v → (u < count) × (v ≤ count)

-- the edge is one of these
abbrev pub is_noted : List (ℕ × ℕ) → ℕ × ℕ → Bool
is_noted back edge = list_any (λ other. (other.0 == edge.0) && (other.1 == edge.1)) back

-- it is none
abbrev pub is_forward : List (ℕ × ℕ) → ℕ × ℕ → Bool
is_forward back edge = not (is_noted back edge)
