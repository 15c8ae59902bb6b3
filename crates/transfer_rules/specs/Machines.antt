-- The abstract machine of a program: memories for its points.
--   CoversHistory program m history, SharpFor program m history   the memory stands for the history, and for
--       it alone
--   Fits program graph n m          the memory is one for the node: sizes, and the active frames of its call
--       path
--   AreAlike a b                    two memories with the same active frames
--   memory_order program            memories as a lattice
--   goals_from program graph n m    the goals of a step from the node
--   run_machine program graph rows  the machine
use Rattle.std.specs.Prelude.{◌≡◌, ◌↔◌, ◌<◌, ℕ, true, List, map, length, Option}
use Rattle.alf_ops.specs.declared.history.RunEvent.{RunEvent}
use Rattle.alf_ops.specs.Histories.{IsSoundHistory}
use Rattle.alf_check.specs.declared.rows.InputRow.{InputRow}
use Rattle.alf_check.specs.CheckedPrograms.{NumberedProgram}
use Rattle.alf_check.specs.Kept.{IsKept}
use Rattle.alf_check.specs.Inputs.{KeepInputs}
use Rattle.flow_graph.specs.Nodes.{Goal}
use Rattle.flow_graph.specs.Numbering.{GraphParts, IsGraph}
use Rattle.flow_graph.specs.Expansions.{node_number}
use Rattle.alf_runs.specs.Steps.{frames_of}
use Rattle.alf_runs.specs.Places.{IsOwnedAlong}
use Rattle.alf_runs.specs.SizeLaws.{ValueHasSize}
use Rattle.transfer_rules.specs.NodeNumbers.{goal_number}
use Rattle.transfer_rules.specs.Points.{run_system}
use Rattle.transfer_rules.specs.PointLaws.{Promises}
use Rattle.domain_core.specs.Orders.{Order}
use Rattle.domain_core.specs.Machines.{Machine}
use Rattle.memory_rules.specs.Memories.{Mem, is_on, both, MemCovers, MemSharp, MemSized}
use Rattle.memory_rules.specs.AbstractSets.{abstract_sets}
use Rattle.transfer_rules.specs.Remains.{Remains}
use Rattle.transfer_rules.specs.Filling.{first_memory}
use Rattle.transfer_rules.specs.Stepping.{Goals, step_at, goals_left}

-- the memory stands for the history
pub record CoversHistory (program : NumberedProgram) (m : Mem abstract_sets) (history : List RunEvent) : Type 0 where
  pub sound : IsSoundHistory history
  pub covers : MemCovers abstract_sets (frames_of program) m history

-- and for this one alone
pub record SharpFor (program : NumberedProgram) (m : Mem abstract_sets) (history : List RunEvent) : Type 0 where
  pub sound : IsSoundHistory history
  pub sharp : MemSharp abstract_sets (frames_of program) m history

-- the active frames are the global ones and those of the functions on the path
abbrev pub RunsAlong : NumberedProgram → List ℕ → Mem abstract_sets → Type 0
RunsAlong program path m = (owner : Option ℕ) → (is_on m.runs owner ≡ true) ↔ IsOwnedAlong program path owner

-- the memory is one for the node
pub record Fits (program : NumberedProgram) (graph : GraphParts) (n : ℕ) (m : Mem abstract_sets) : Type 0 where
  pub low : n < length graph.nodes
  pub sized : MemSized abstract_sets m
  pub along : RunsAlong program (node_number graph n).path m

-- two memories with the same active frames
pub record AreAlike (a b : Mem abstract_sets) : Type 0 where
  pub first : MemSized abstract_sets a
  pub second : MemSized abstract_sets b
  pub runs : (function : ℕ) → a.runs function ≡ b.runs function

-- memories of a program as a lattice: what is above stands for as much
abbrev pub memory_order : NumberedProgram → Order (Mem abstract_sets)
memory_order program = record {
  alike = AreAlike;
  under = λ a b. (history : List RunEvent) → CoversHistory program a history → CoversHistory program b history;
  joined = both abstract_sets;
}

-- the goals of a step from the node, and the faults
abbrev pub goals_from : NumberedProgram → GraphParts → ℕ → Mem abstract_sets → Remains Goals
goals_from program graph n m = step_at program (node_number graph n).path (node_number graph n).block m

-- goals by their numbers
abbrev pub numbered_goal : GraphParts → Goal × Mem abstract_sets → ℕ × Mem abstract_sets
numbered_goal graph goal = (goal_number graph goal.0, goal.1)

-- what the crates below promise of runs
pub record StepPromises : Type 0 where
  pub points : Promises
  pub sizes : ValueHasSize

-- what the machine keeps: the program is a checked one, the graph is its graph, and the rows are rows of it
pub record KeepsMachine (program : NumberedProgram) (graph : GraphParts) (rows : List InputRow) : Type 0 where
  pub keeps : IsKept program
  pub is : IsGraph program graph
  pub inputs : KeepInputs program rows
  pub promises : StepPromises

-- the machine
abbrev pub run_machine : NumberedProgram → GraphParts → List InputRow → Machine (Mem abstract_sets) (List RunEvent)
run_machine program graph rows = record {
  kept = KeepsMachine program graph rows;
  system = run_system program graph rows;
  covers = CoversHistory program;
  sharp = SharpFor program;
  fits = Fits program graph;
  first = first_memory program rows;
  next = λ n m. map (numbered_goal graph) (goals_left (goals_from program graph n m).left);
  faults = λ n m. (goals_from program graph n m).faults;
  exit = length graph.nodes;
}
