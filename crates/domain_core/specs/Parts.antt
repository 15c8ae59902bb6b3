-- Parts of a trace that begin at some nodes and go on through others, along the trace with the newest node first.
--   further n part                 a node before a part, where there is one
--   open_part begins goes past     the part that is not over, newest first, or []
--   closed_parts begins goes past  those that are over, the newest first
--   parts begins goes past         all of them
--   IsPart Begins Goes past part   a node at which it begins, and after it the nodes through which it goes on, as far as they go
use Rattle.std.specs.Prelude.{◌≡◌, ℕ, Bool, List, [], ◌∷◌, ◌++◌, if◌then◌else◌}
use Rattle.domain_core.specs.Stretches.{AreAll, LastIsNot, with_closed}

-- a node before a part, where there is one
abbrev pub further : ℕ → List ℕ → List ℕ
further n [] = []
further n (m ∷ part) = n ∷ m ∷ part

-- the part that is not over
abbrev pub open_part : (ℕ → Bool) → (ℕ → Bool) → List ℕ → List ℕ
open_part begins goes [] = []
open_part begins goes (n ∷ past) = if begins n then n ∷ [] else (if goes n then further n (open_part begins goes past) else [])

-- those that are over
abbrev pub closed_parts : (ℕ → Bool) → (ℕ → Bool) → List ℕ → List (List ℕ)
closed_parts begins goes [] = []
closed_parts begins goes (n ∷ past) =
    if goes n then closed_parts begins goes past else with_closed (open_part begins goes past) (closed_parts begins goes past)

-- all of them
abbrev pub parts : (ℕ → Bool) → (ℕ → Bool) → List ℕ → List (List ℕ)
parts begins goes past = with_closed (open_part begins goes past) (closed_parts begins goes past)

-- a node at which it begins, and after it the nodes through which it goes on, as far as they go
pub record IsPart (Begins Goes : ℕ → Type 0) (past part : List ℕ) : Type 0 where
  pub newer : List ℕ
  pub others : List ℕ
  pub first : ℕ
  pub older : List ℕ
  pub is : past ≡ newer ++ (others ++ first ∷ older)
  pub part_is : part ≡ others ++ first ∷ []
  pub all : AreAll Goes others
  pub begins : Begins first
  pub ends : LastIsNot Goes newer
