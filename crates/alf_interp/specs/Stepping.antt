-- A machine by its parts.
--   IsMachine program graph firsts node memory   the parts belong together
--   machine_at checked graph node memory         the machine of these parts
--   next_number node moved                       the number of the node where it stands after a step
use Rattle.std.specs.Prelude.{◌<◌, ℕ, List, length}
use Rattle.alf_check.specs.CheckedPrograms.{CheckedParts, NumberedProgram}
use Rattle.alf_values.specs.Memories.{RunMemory, IsMadeFor}
use Rattle.flow_graph.specs.Numbering.{GraphParts, IsGraph}
use Rattle.alf_interp.specs.declared.moved.Moved.{Moved}
use Rattle.alf_interp.specs.declared.moved.Moved.TheVariants as told
use Rattle.alf_interp.specs.Machines.{RunMachine}
use Rattle.flow_graph.specs.Edges.{AreFirstEdges}

-- the parts belong together
pub record IsMachine (program : NumberedProgram) (graph : GraphParts) (firsts : List ℕ) (node : ℕ)
    (memory : RunMemory) : Type 0 where
  pub is_graph : IsGraph program graph
  pub are_firsts : AreFirstEdges graph firsts
  pub there : node < length graph.nodes
  pub made : IsMadeFor program memory

-- the machine of these parts
abbrev pub machine_at : CheckedParts → GraphParts → ℕ → RunMemory → RunMachine
machine_at checked graph node memory = record { checked = checked; graph = graph; node = node; memory = memory }

-- the number of the node where it stands after a step
abbrev pub next_number : ℕ → Moved → ℕ
next_number node (told.To next) = next
next_number node (told.Ended outputs) = node
next_number node (told.Faulted fault) = node
