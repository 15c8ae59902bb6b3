-- The machine of a program over the parts that code keeps.
--   IsOwn program parts              parts of a memory of this program
--   KeepsParts                       what the machine keeps
--   part_machine checked graph rows  the machine
use Rattle.std.proofs.Common.{◌≡◌, List}
use Rattle.alf_ops.specs.declared.history.RunEvent.{RunEvent}
use Rattle.alf_check.specs.declared.rows.InputRow.{InputRow}
use Rattle.alf_check.specs.CheckedPrograms.{CheckedParts, seen}
use Rattle.flow_graph.specs.Numbering.{GraphParts}
use Rattle.domain_core.specs.Machines.{Machine}
use Rattle.transfer_rules.specs.Machines.{KeepsMachine, run_machine}
use Rattle.memory_model.specs.KeptMemories.{MemoryParts, memory_in, rows_of, IsMemory}
use Rattle.memory_model.specs.Made.{made}
use Rattle.transfer_rules.specs.Inside.{IsInside}
use Rattle.transfer_rules.specs.MadeMachines.{by_made}
use Rattle.transfer_rules.specs.RunsInside.{StorePromises}

-- parts of a memory of this program
pub record IsOwn (program : CheckedParts) (parts : MemoryParts) : Type 0 where
  pub checked : parts.checked ≡ program
  pub is : IsMemory parts

-- what the machine keeps
pub record KeepsParts (checked : CheckedParts) (graph : GraphParts) (rows : List InputRow) : Type 0 where
  pub machine : KeepsMachine (seen checked) graph rows
  pub stores : StorePromises

-- the machine over parts
abbrev pub part_machine : CheckedParts → GraphParts → List InputRow → Machine MemoryParts (List RunEvent)
part_machine checked graph rows =
    record (by_made memory_in (made checked) (IsOwn checked) (IsInside (rows_of checked)) (run_machine (seen checked) graph rows)) {
      kept = KeepsParts checked graph rows;
    }
