-- Runs.
--   after program t moment         where a run stands after t steps
--   trace program t moment         the nodes at which the first t of these steps are made, in order
--   Ends program start nodes outcome   the run has these nodes and this outcome
--   IsLonger program start n       the run has more than n nodes
--   NeverEnds program start        it has more nodes than any number
--   cost_of cost nodes             the costs of the nodes added up, each once for each time that it stands there
use Rattle.std.specs.Prelude.{◌≡◌, ℕ, zero, suc, List, [], ◌∷◌, sum_by}
use Rattle.alf_ops.specs.declared.history.RunEvent.{RunEvent}
use Rattle.alf_check.specs.CheckedPrograms.{NumberedProgram}
use Rattle.flow_graph.specs.Nodes.{Node}
use Rattle.alf_runs.specs.Outcomes.{Outcome}
use Rattle.alf_runs.specs.Steps.{Moment, At, Over, step}

-- where a run stands after t steps
abbrev pub after : NumberedProgram → ℕ → Moment → Moment
after program zero moment = moment
after program (suc t) moment = after program t (step program moment)

-- the nodes at which the first t steps are made, in order; a run that is over has no more
abbrev pub trace : NumberedProgram → ℕ → Moment → List Node
trace program zero moment = []
trace program (suc t) (At node history) = node ∷ trace program t (step program (At node history))
trace program (suc t) (Over outcome) = []

-- the run comes to its end with this outcome, and has these nodes before it
pub record Ends (program : NumberedProgram) (start : Moment) (nodes : List Node) (outcome : Outcome) : Type 0 where
  pub steps : ℕ
  pub over : after program steps start ≡ Over outcome
  pub passes : trace program steps start ≡ nodes

-- the run has more than n nodes: after n steps it stands at one
pub record IsLonger (program : NumberedProgram) (start : Moment) (n : ℕ) : Type 0 where
  pub node : Node
  pub history : List RunEvent
  pub stands : after program n start ≡ At node history

-- it has more nodes than any number
abbrev pub NeverEnds : NumberedProgram → Moment → Type 0
NeverEnds program start = (n : ℕ) → IsLonger program start n

-- the costs of the nodes added up, each once for each time that it stands there
abbrev pub cost_of : (Node → ℕ) → List Node → ℕ
cost_of cost nodes = sum_by cost nodes
