-- What a stepper is seen as, and what its parts keep.
--   StepperParts              the program, its graph, and rows of inputs inside their ranges
--   IsStepper parts firsts    the graph is that of the program, the rows keep the rules, and these are the first edges from the nodes
--   stepped_by parts          the machine of these parts
--   GoesAlong parts           each of its steps, abstract or concrete, lies along an edge of the graph's outline
use Rattle.std.specs.Prelude.{◌≡◌, ℕ, List, length}
use Rattle.alf_ops.specs.declared.history.RunEvent.{RunEvent}
use Rattle.alf_check.specs.declared.rows.InputRow.{InputRow}
use Rattle.alf_check.specs.CheckedPrograms.{CheckedParts, seen}
use Rattle.alf_check.specs.Inputs.{KeepInputs}
use Rattle.flow_graph.specs.Numbering.{GraphParts, IsGraph}
use Rattle.flow_graph.specs.Edges.{AreFirstEdges}
use Rattle.domain_core.specs.Machines.{Machine, IsAlong}
use Rattle.domain_core.specs.Outlines.{Shape}
use Rattle.memory_model.specs.KeptMemories.{MemoryParts}
use Rattle.transfer_rules.specs.PartMachines.{part_machine}

pub record StepperParts : Type 0 where
  pub checked : CheckedParts
  pub graph : GraphParts
  pub rows : List InputRow

-- the parts belong together
pub record IsStepper (parts : StepperParts) (firsts : List ℕ) : Type 0 where
  pub is_graph : IsGraph (seen parts.checked) parts.graph
  pub inputs : KeepInputs (seen parts.checked) parts.rows
  pub are_firsts : AreFirstEdges parts.graph firsts

-- the machine
abbrev pub stepped_by : StepperParts → Machine MemoryParts (List RunEvent)
stepped_by parts = part_machine parts.checked parts.graph parts.rows

-- its steps lie along edges
abbrev pub GoesAlong : StepperParts → Type 0
GoesAlong parts = (o : Shape) → o.edges ≡ parts.graph.edges → length o.own ≡ length parts.graph.nodes → IsAlong MemoryParts (List RunEvent) o (stepped_by parts)
