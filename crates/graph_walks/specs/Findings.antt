-- What is found of one function.
--   IsMarking calls f marks     f is marked, and exactly what calls lead to from it
--   IsCaller calls marks f g    g is marked, and calls f
--   IsRankOf calls f rank       f is on no cycle, and calls lead to so many other functions
--   IsFinding calls f finding   what is found of f is true
use Rattle.std.specs.Prelude.{◌≡◌, ℕ, suc, Bool, List, length}
use Rattle.graph_walks.specs.Walks.{Reaches}
use Rattle.graph_walks.specs.MarkedNodes.{IsMarked, marked_count}
use Rattle.graph_walks.specs.declared.finding.Finding.{Finding}
use Rattle.graph_walks.specs.declared.finding.Finding.TheVariants.{Rank, Cycle}
use Rattle.graph_walks.specs.Calls.{Calls, OnCycle, IsCycle}

-- f is marked, and exactly what calls lead to from it
pub record IsMarking (calls : List (List ℕ)) (f : ℕ) (marks : List Bool) : Type 0 where
  pub long : length marks ≡ length calls
  pub reached : (g : ℕ) → IsMarked marks g → Reaches (Calls calls) f g
  pub all : (g : ℕ) → Reaches (Calls calls) f g → IsMarked marks g

-- g is marked, and calls f
pub record IsCaller (calls : List (List ℕ)) (marks : List Bool) (f g : ℕ) : Type 0 where
  pub marked : IsMarked marks g
  pub call : Calls calls g f

-- f is on no cycle, and calls lead to so many other functions
pub record IsRankOf (calls : List (List ℕ)) (f rank : ℕ) : Type 0 where
  pub marks : List Bool
  pub marking : IsMarking calls f marks
  pub alone : OnCycle calls f → ⊥
  pub counted : suc rank ≡ marked_count marks

-- what is found of f is true
abbrev pub IsFinding : List (List ℕ) → ℕ → Finding → Type 0
IsFinding calls f (Rank rank) = IsRankOf calls f rank
IsFinding calls f (Cycle path) = IsCycle calls f path.items
