-- What a machine is seen as, and where it stands.
--   RunMachine                      a machine: its program and the graph of it, the number of a node, and its memory
--   StandsWith machine node history it stands at the node, and its memory stands for the history, with which a run of the program may come there
--   StandsAt machine moment         so it does at this moment of a run; at an end it stands nowhere
--   IsStanding machine              it stands at some moment of a run
use Rattle.std.specs.Prelude.{◌≡◌, ℕ, List, Some, slice_get}
use Rattle.alf_ops.specs.declared.history.RunEvent.{RunEvent}
use Rattle.alf_check.specs.CheckedPrograms.{CheckedParts, seen}
use Rattle.alf_values.specs.Memories.{RunMemory}
use Rattle.alf_values.specs.Standing.{StandsFor}
use Rattle.flow_graph.specs.Nodes.{Node}
use Rattle.flow_graph.specs.Numbering.{GraphParts}
use Rattle.alf_runs.specs.Steps.{Moment, At, Over}
use Rattle.alf_runs.specs.Places.{IsPlace}

-- a machine: its program and the graph of it, the number of a node, and its memory
pub record RunMachine : Type 0 where
  pub checked : CheckedParts
  pub graph : GraphParts
  pub node : ℕ
  pub memory : RunMemory

-- it stands at the node, and its memory stands for the history, with which a run of the program may come there
pub record StandsWith (machine : RunMachine) (node : Node) (history : List RunEvent) : Type 0 where
  pub numbered : slice_get machine.graph.nodes machine.node ≡ Some node
  pub remembers : StandsFor machine.memory history
  pub placed : IsPlace (seen machine.checked) node history

-- so it does at this moment of a run; at an end it stands nowhere
abbrev pub StandsAt : RunMachine → Moment → Type 0
StandsAt machine (At node history) = StandsWith machine node history
StandsAt machine (Over outcome) = ⊥

-- it stands at some moment of a run
pub record IsStanding (machine : RunMachine) : Type 0 where
  pub moment : Moment
  pub stands : StandsAt machine moment
