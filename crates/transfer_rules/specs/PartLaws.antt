-- What the machine over parts promises, for functions whose clauses are the laws.
--   PartsAreMachine    it keeps the laws of a stepper
--   PartsGoAlong       its steps lie along the edges of the graph's outline
use Rattle.std.specs.Prelude.{◌≡◌, List, length}
use Rattle.alf_ops.specs.declared.history.RunEvent.{RunEvent}
use Rattle.alf_check.specs.declared.rows.InputRow.{InputRow}
use Rattle.alf_check.specs.CheckedPrograms.{CheckedParts}
use Rattle.flow_graph.specs.Numbering.{GraphParts}
use Rattle.domain_core.specs.Machines.{IsMachine, IsAlong}
use Rattle.domain_core.specs.Outlines.{Shape}
use Rattle.memory_model.specs.KeptMemories.{MemoryParts}
use Rattle.memory_model.specs.SeenOrders.{parts_order}
use Rattle.transfer_rules.specs.PartMachines.{KeepsParts, part_machine}

-- it keeps the laws of a stepper
abbrev pub PartsAreMachine : Type 0
PartsAreMachine = (checked : CheckedParts) (graph : GraphParts) (rows : List InputRow) → KeepsParts checked graph rows
    → IsMachine MemoryParts (List RunEvent) parts_order (part_machine checked graph rows)

-- its steps lie along the edges of the graph's outline
abbrev pub PartsGoAlong : Type 0
PartsGoAlong = (checked : CheckedParts) (graph : GraphParts) (rows : List InputRow) (o : Shape) → KeepsParts checked graph rows
    → o.edges ≡ graph.edges → length o.own ≡ length graph.nodes → IsAlong MemoryParts (List RunEvent) o (part_machine checked graph rows)
