-- Stretches of a trace. A trace is the list of a run's nodes in their order. Where a definition goes along the trace
-- as the run makes it, the trace is written with the newest node first.
--   IsStretch Inside trace stretch   a longest part of the trace whose nodes are all inside
--   open_stretch inside past         the stretch that is not over, newest first, or []
--   closed_stretches inside past     those that are over, the newest first
--   stretches inside past            all of them
--   Passes test n                    the node passes the test
use Rattle.std.specs.Prelude.{◌≡◌, ◌≢◌, ℕ, Bool, true, List, [], ◌∷◌, ◌++◌, if◌then◌else◌, Contains}

-- the node passes the test
abbrev pub Passes : (ℕ → Bool) → ℕ → Type 0
Passes test n = test n ≡ true

-- all elements of the list are inside
abbrev pub AreAll : (ℕ → Type 0) → List ℕ → Type 0
AreAll Inside nodes = (n : ℕ) → Contains nodes n → Inside n

-- the last element of the list, if there is one, is not inside
abbrev pub LastIsNot : (ℕ → Type 0) → List ℕ → Type 0
LastIsNot Inside nodes = (front : List ℕ) (n : ℕ) → nodes ≡ front ++ n ∷ [] → Inside n → ⊥

-- the first element of the list, if there is one, is not inside
abbrev pub FirstIsNot : (ℕ → Type 0) → List ℕ → Type 0
FirstIsNot Inside nodes = (n : ℕ) (rest : List ℕ) → nodes ≡ n ∷ rest → Inside n → ⊥

-- a longest part of the trace whose nodes are all inside
pub record IsStretch (Inside : ℕ → Type 0) (trace stretch : List ℕ) : Type 0 where
  pub earlier : List ℕ
  pub later : List ℕ
  pub is : trace ≡ earlier ++ (stretch ++ later)
  pub some : stretch ≢ []
  pub all : AreAll Inside stretch
  pub starts : LastIsNot Inside earlier
  pub ends : FirstIsNot Inside later

-- The stretch that is not over at the end of the trace, or [].
abbrev pub open_stretch : (ℕ → Bool) → List ℕ → List ℕ
open_stretch inside [] = []
open_stretch inside (n ∷ past) = if inside n then n ∷ open_stretch inside past else []

-- a stretch that is over, before the others
abbrev pub with_closed : List ℕ → List (List ℕ) → List (List ℕ)
with_closed [] older = older
with_closed (n ∷ rest) older = (n ∷ rest) ∷ older

-- the stretches that are over
abbrev pub closed_stretches : (ℕ → Bool) → List ℕ → List (List ℕ)
closed_stretches inside [] = []
closed_stretches inside (n ∷ past) = if inside n then closed_stretches inside past else with_closed (open_stretch inside past) (closed_stretches inside past)

-- all stretches of the trace
abbrev pub stretches : (ℕ → Bool) → List ℕ → List (List ℕ)
stretches inside past = with_closed (open_stretch inside past) (closed_stretches inside past)
