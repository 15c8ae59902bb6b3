-- Arms as code keeps them.
--   seen_arms arms          each arm's block and its memory
--   arm_by r m to words     an arm with these words, if there are some
--   target_arms_by r m words targets   the arms of targets in order
--   arms_by r m targets others words   these, and then the default
--   goals_of path arms      the arms as goals of a node of this path
--   IsArmOf memory arm      the arm's memory is one of the same program
use Rattle.std.specs.Prelude.{◌≡◌, ℕ, List, [], ◌∷◌, ◌++◌, map, Option, Some, None}
use Rattle.flow_graph.specs.Nodes.{block_node}
use Rattle.strided_rules.specs.Strides.{Stride}
use Rattle.strided_rules.specs.Members.{only}
use Rattle.memory_rules.specs.Memories.{Mem}
use Rattle.memory_rules.specs.AbstractSets.{abstract_sets}
use Rattle.memory_model.specs.KeptMemories.{MemoryParts, memory_in, IsMemory}
use Rattle.transfer_rules.specs.Stepping.{Goals, without_all}
use Rattle.branch_refinement.specs.declared.refinements.Refinement.{Refinement}
use Rattle.branch_refinement.specs.Refinements.{refined_by}

-- each arm's block and its memory
abbrev pub seen_arms : List (ℕ × MemoryParts) → List (ℕ × Mem abstract_sets)
seen_arms arms = map (λ (arm : ℕ × MemoryParts). (arm.0, memory_in arm.1)) arms

abbrev pub if_there : ℕ → Option (Mem abstract_sets) → List (ℕ × Mem abstract_sets)
if_there to None = []
if_there to (Some m) = (to, m) ∷ []

-- an arm with these words, if there are some
abbrev pub arm_by : Refinement → Mem abstract_sets → ℕ → Option Stride → List (ℕ × Mem abstract_sets)
arm_by r m to None = []
arm_by r m to (Some words) = if_there to (refined_by r m words)

-- the arms of targets in order
abbrev pub target_arms_by : Refinement → Mem abstract_sets → Stride → List (ℕ × ℕ) → List (ℕ × Mem abstract_sets)
target_arms_by r m words [] = []
target_arms_by r m words (target ∷ targets) = arm_by r m target.1 (only words target.0) ++ target_arms_by r m words targets

-- these, and then the default
abbrev pub arms_by : Refinement → Mem abstract_sets → List (ℕ × ℕ) → ℕ → Stride → List (ℕ × Mem abstract_sets)
arms_by r m targets others words = target_arms_by r m words targets ++ arm_by r m others (without_all (Some words) targets)

-- the arms as goals of a node of this path
abbrev pub goals_of : List ℕ → List (ℕ × MemoryParts) → Goals
goals_of path arms = map (λ (arm : ℕ × MemoryParts). (Some (block_node path arm.0), memory_in arm.1)) arms

-- the arm's memory is one of the same program
pub record IsArmOf (memory : MemoryParts) (arm : ℕ × MemoryParts) : Type 0 where
  pub checked : arm.1.checked ≡ memory.checked
  pub kept : IsMemory arm.1
