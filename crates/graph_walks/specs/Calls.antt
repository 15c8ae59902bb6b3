-- Calls among functions, and recursion. A program's calls are a table: its row f has the functions that function f
-- calls, in the order of the text. One may stand there more than once.
--   Calls calls f g          f calls g
--   Reaches calls f g        one call or more leads from f to g
--   OnCycle calls f          calls lead from f back to f
--   CallsWithin calls        each function that is called is one of them
--   IsCycle calls f path     the path goes from f back to f, and meets no function twice on its way
--   IsFirstCycle calls path  it is such a path of the least function that is on a cycle
--   IsRanked calls ranks     each call leads from a higher rank to a lower one
--   IsFaultOf calls fault    what the fault says is true of the calls
--   RanksRuleOutCycles       where the functions are ranked, none is on a cycle
--   calls_of rows            what the code's lists stand for
use Rattle.std.specs.Prelude.{◌≡◌, ◌<◌, ℕ, List, [], ◌∷◌, ◌++◌, ⊤, Vec, length, slice_index}
use Rattle.std.specs.declared.alloc.Global.{Global}
use Rattle.graph_walks.specs.Walks.{Walk, IsDistinct}
use Rattle.graph_walks.specs.Tables.{HasEdge, IsClosed, rows_of}
use Rattle.graph_walks.specs.declared.fault.CallFault.{CallFault}
use Rattle.graph_walks.specs.declared.fault.CallFault.TheVariants.{Cycle, Memory}

-- f is a function, and calls g
abbrev pub Calls : List (List ℕ) → ℕ → ℕ → Type 0
Calls calls f g = HasEdge calls f g

-- one call or more leads from f to g: calls lead from f to the last one before g, and that one calls g
pub record Reaches (calls : List (List ℕ)) (f g : ℕ) : Type 0 where
  pub last : ℕ
  pub path : List ℕ
  pub walk : Walk (Calls calls) f last path
  pub call : Calls calls last g

-- calls lead from f back to f
abbrev pub OnCycle : List (List ℕ) → ℕ → Type 0
OnCycle calls f = Reaches calls f f

-- each function that is called is one of them
abbrev pub CallsWithin : List (List ℕ) → Type 0
CallsWithin calls = IsClosed calls

-- the path goes from f back to f, and meets no function twice on its way
pub record IsCycle (calls : List (List ℕ)) (f : ℕ) (path : List ℕ) : Type 0 where
  pub between : List ℕ
  pub closed : path ≡ f ∷ (between ++ f ∷ [])
  pub walks : Walk (Calls calls) f f path
  pub once : IsDistinct (f ∷ between)

-- it is such a path of the least function that is on a cycle
pub record IsFirstCycle (calls : List (List ℕ)) (path : List ℕ) : Type 0 where
  pub first : ℕ
  pub cycle : IsCycle calls first path
  pub on_cycle : OnCycle calls first
  pub least : (f : ℕ) → f < first → OnCycle calls f → ⊥

-- each function has a rank below their count, and each call leads from a higher rank to a lower one
pub record IsRanked (calls : List (List ℕ)) (ranks : List ℕ) : Type 0 where
  pub one_each : length ranks ≡ length calls
  pub within : (f : ℕ) → f < length calls → slice_index ranks f < length calls
  pub falls : (f g : ℕ) → Calls calls f g → slice_index ranks g < slice_index ranks f

-- what the fault says is true of the calls: a want of memory says nothing
abbrev pub IsFaultOf : List (List ℕ) → CallFault → Type 0
IsFaultOf calls (Cycle path) = IsFirstCycle calls path.items
IsFaultOf calls Memory = ⊤

-- where the functions are ranked, none is on a cycle
abbrev pub RanksRuleOutCycles : Type 0
RanksRuleOutCycles = (calls : List (List ℕ)) (ranks : List ℕ) → IsRanked calls ranks → (f : ℕ) → OnCycle calls f → ⊥

-- what the code's lists stand for
abbrev pub calls_of : List (Vec ℕ Global) → List (List ℕ)
calls_of rows = rows_of rows
