-- Runs by the numbers of their nodes.
--   AreNumbersOf nodes trace run   the trace has the numbers of the nodes of a run, in order
--   Runs program nodes start trace outcome   the run from the start has these nodes and this outcome
--   IsPast program nodes start turns n       the run has more nodes than the turns, and node n comes after so many
--   places_of trace n              how often node n stands in the trace
--   last_of trace                  its last node
--   cost_of costs trace            the costs of its nodes added up, each once for each time that it stands there
use Rattle.std.specs.Prelude.{◌≡◌, ◌==◌, ℕ, List, [], ◌∷◌, Option, None, Some, slice_get, slice_index, count_by, sum_by}
use Rattle.std.specs.List.{AllZip}
use Rattle.alf_ops.specs.declared.history.RunEvent.{RunEvent}
use Rattle.alf_check.specs.CheckedPrograms.{NumberedProgram}
use Rattle.flow_graph.specs.Nodes.{Node}
use Rattle.alf_runs.specs.Outcomes.{Outcome}
use Rattle.alf_runs.specs.Steps.{Moment, At}
use Rattle.alf_runs.specs.Runs.{after, Ends}

-- n is the number of the node
abbrev pub IsNodeAt : List Node → ℕ → Node → Type 0
IsNodeAt nodes n node = slice_get nodes n ≡ Some node

-- the trace has the numbers of the nodes of a run, in order
abbrev pub AreNumbersOf : List Node → List ℕ → List Node → Type 0
AreNumbersOf nodes trace run = AllZip (IsNodeAt nodes) trace run

-- the run from the start has this outcome, and the nodes with these numbers
pub record Runs (program : NumberedProgram) (nodes : List Node) (start : Moment) (trace : List ℕ)
    (outcome : Outcome) : Type 0 where
  pub run : List Node
  pub ends : Ends program start run outcome
  pub numbers : AreNumbersOf nodes trace run

-- the run has more nodes than the turns, and node n comes after so many
pub record IsPast (program : NumberedProgram) (nodes : List Node) (start : Moment) (turns n : ℕ) : Type 0 where
  pub node : Node
  pub history : List RunEvent
  pub stands : after program turns start ≡ At node history
  pub number : IsNodeAt nodes n node

-- how often node n stands in the trace
abbrev pub places_of : List ℕ → ℕ → ℕ
places_of trace n = count_by (λ m. m == n) trace

-- its last node
abbrev pub last_of : List ℕ → Option ℕ
last_of [] = None
last_of (n ∷ []) = Some n
last_of (n ∷ m ∷ trace) = last_of (m ∷ trace)

-- the costs of its nodes added up, each once for each time that it stands there
abbrev pub cost_of : List ℕ → List ℕ → ℕ
cost_of costs trace = sum_by (λ n. slice_index costs n) trace
