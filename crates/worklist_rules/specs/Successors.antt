-- What the successors of a place make: the book grows, and each one that is no end of runs makes a place.
use Rattle.std.proofs.Common.{◌≡◌, ◌≢◌, ℕ, ◌<◌, ◌≤◌, List, ◌∷◌, length, Contains}
use Rattle.domain_core.specs.Outlines.{Outlined, shape_of}
use Rattle.domain_core.specs.Recordings.{Recording}
use Rattle.worklist_rules.specs.Positions.{moved_position}
use Rattle.worklist_rules.specs.Pools.{Spot}

-- a place that a successor makes: it covers what the stepped place covers and one node more
pub record IsMade {T R B : Type 0} (z : Recording R B) (o : Outlined) (position : List ℕ) (n : ℕ) (past : List ℕ)
    (book : B) (s : ℕ × T) (spot : Spot T R) : Type 0 where
  pub node : spot.node ≡ s.0
  pub position_is : spot.position ≡ moved_position (shape_of o) n position s.0
  pub state : spot.state ≡ s.1
  pub recorder : z.covers o spot.recorder book (s.0 ∷ n ∷ past)

-- where a place comes from
pub record IsFrom {T R B : Type 0} (z : Recording R B) (o : Outlined) (position : List ℕ) (n : ℕ) (next : List (ℕ × T))
    (limit : ℕ) (spot : Spot T R) : Type 0 where
  pub source : ℕ × T
  pub among : Contains next source
  pub no_end : source.0 ≢ length o.nodes
  pub node : spot.node ≡ source.0
  pub position_is : spot.position ≡ moved_position (shape_of o) n position source.0
  pub state : spot.state ≡ source.1
  pub is_of : z.is_of o spot.recorder
  pub long : z.length_of spot.recorder ≤ limit

-- each successor is at the end of runs, or at a node along an edge
abbrev pub AreAlong : {T : Type 0} → Outlined → ℕ → List (ℕ × T) → Type 0
AreAlong {T} o n next = (s : ℕ × T) → Contains next s → s.0 ≢ length o.nodes → Contains o.edges (n, s.0) × (s.0 < length o.nodes)
