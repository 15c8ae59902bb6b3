-- What code makes of a step.
--   seen_point point              the number of a node, and the memory that the parts stand for
--   numbered_arm here arm         an arm with the number of its node in place of its block
--   IsTurn here next faults r     the next nodes with their memories and the faults are what remains
use Rattle.std.specs.Prelude.{◌≡◌, ℕ, List, map, All, Some}
use Rattle.flow_graph.specs.Nodes.{block_node}
use Rattle.transfer_rules.specs.NodeNumbers.{goal_number}
use Rattle.domain_core.specs.declared.fault_set.FaultSet.{FaultSet}
use Rattle.memory_rules.specs.Memories.{Mem}
use Rattle.memory_rules.specs.AbstractSets.{abstract_sets}
use Rattle.memory_model.specs.KeptMemories.{MemoryParts, memory_in}
use Rattle.transfer_rules.specs.Remains.{Remains}
use Rattle.transfer_rules.specs.Stepping.{Goals, goals_left}
use Rattle.transfer_rules.specs.Machines.{numbered_goal}
use Rattle.transfer_rules.specs.PartMachines.{IsOwn}
use Rattle.abstract_step.specs.Standing.{HereParts, path_at}

-- the number of a node, and the memory that the parts stand for
abbrev pub seen_point : ℕ × MemoryParts → ℕ × Mem abstract_sets
seen_point point = (point.0, memory_in point.1)

-- an arm with the number of its node in place of its block
abbrev pub numbered_arm : HereParts → ℕ × MemoryParts → ℕ × MemoryParts
numbered_arm here arm = (goal_number here.graph (Some (block_node (path_at here) arm.0)), arm.1)

-- the next nodes with their memories and the faults are what remains
pub record IsTurn (here : HereParts) (next : List (ℕ × MemoryParts)) (faults : FaultSet)
    (r : Remains Goals) : Type 0 where
  pub goals : map seen_point next ≡ map (numbered_goal here.graph) (goals_left r.left)
  pub same : faults ≡ r.faults
  pub own : All (λ (point : ℕ × MemoryParts). IsOwn here.checked point.1) next
