-- Laws of runs.
--   AfterMore         t + u steps are t steps and then u, and so are their nodes
--   StaysOver         what is over stays
--   HasOneEnd         a run that ends has one list of nodes and one outcome
--   EndsAtItsLength   a run that ends has more nodes than n exactly where n is below their count
--   EndsWithin        the run ends with at most n nodes
--   EndsOrGoesOn      a run ends with at most n nodes, or has more
use Rattle.std.specs.Prelude.{◌≡◌, ◌↔◌, ◌⊎◌, ◌+◌, ◌<◌, ◌≤◌, ℕ, List, ◌++◌, length}
use Rattle.alf_check.specs.CheckedPrograms.{NumberedProgram}
use Rattle.flow_graph.specs.Nodes.{Node}
use Rattle.alf_runs.specs.Outcomes.{Outcome}
use Rattle.alf_runs.specs.Steps.{Moment, Over}
use Rattle.alf_runs.specs.Runs.{after, trace, Ends, IsLonger}

-- t + u steps are t steps and then u, and so are their nodes
pub record GoesOnFrom (program : NumberedProgram) (t u : ℕ) (moment : Moment) : Type 0 where
  pub stands : after program (t + u) moment ≡ after program u (after program t moment)
  pub passes : trace program (t + u) moment ≡ trace program t moment ++ trace program u (after program t moment)

abbrev pub AfterMore : Type 0
AfterMore = (program : NumberedProgram) (t u : ℕ) (moment : Moment) → GoesOnFrom program t u moment

-- what is over stays
abbrev pub StaysOver : Type 0
StaysOver = (program : NumberedProgram) (t u : ℕ) (moment : Moment) (outcome : Outcome)
    → after program t moment ≡ Over outcome
    → after program (t + u) moment ≡ Over outcome

-- two ends of one run are the same
pub record IsSameEnd (nodes others : List Node) (outcome other : Outcome) : Type 0 where
  pub same_nodes : nodes ≡ others
  pub same_outcome : outcome ≡ other

-- a run that ends has one list of nodes and one outcome
abbrev pub HasOneEnd : Type 0
HasOneEnd = (program : NumberedProgram) (start : Moment) (nodes others : List Node) (outcome other : Outcome)
    → Ends program start nodes outcome
    → Ends program start others other
    → IsSameEnd nodes others outcome other

-- a run that ends has more nodes than n exactly where n is below their count
abbrev pub EndsAtItsLength : Type 0
EndsAtItsLength = (program : NumberedProgram) (start : Moment) (nodes : List Node) (outcome : Outcome) (n : ℕ)
    → Ends program start nodes outcome
    → IsLonger program start n ↔ (n < length nodes)

-- the run ends with at most n nodes
pub record EndsWithin (program : NumberedProgram) (start : Moment) (n : ℕ) : Type 0 where
  pub nodes : List Node
  pub outcome : Outcome
  pub ends : Ends program start nodes outcome
  pub few : length nodes ≤ n

-- a run ends with at most n nodes, or has more
abbrev pub EndsOrGoesOn : Type 0
EndsOrGoesOn = (program : NumberedProgram) (start : Moment) (n : ℕ) → EndsWithin program start n ⊎ IsLonger program start n
