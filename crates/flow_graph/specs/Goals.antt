-- Where a node leads, as the code lists it.
--   IsGoalIn goals goal             the goal is among the listed ones
--   GoalsHave goals path blocks     these are the blocks of the instance with this path
--   GoesBack program path goals     listed is where a return of this instance leads
--   GoesToTargets goals path targets others   listed is where a switch leads
--   AreGoals program node goals     listed is where the node leads, each goal once, in their order
use Rattle.std.specs.Prelude.{◌≡◌, ◌<◌, ◌↔◌, ℕ, List, [], ◌∷◌, reverse, Option, None, Some, Contains, AllPairs}
use Rattle.alf_check.specs.CheckedPrograms.{NumberedProgram}
use Rattle.flow_graph.specs.Nodes.{Node, Goal, Leads, IsTarget, ending_at, function_at}
use Rattle.flow_graph.specs.Paths.{next_of}
use Rattle.flow_graph.specs.Numbering.{block_rank}
use Rattle.flow_graph.specs.Places.{node_at}
use Rattle.flow_graph.specs.declared.goals.Goals.{Goals}

-- the goal is among the listed ones: blocks of one instance, or the end alone
abbrev pub IsGoalIn : Option Goals → Goal → Type 0
IsGoalIn None goal = goal ≡ None
IsGoalIn (Some goals) goal = (block : Option ℕ) × Contains goals.blocks.items block × (goal ≡ Some (node_at goals.path.items block))

-- each block comes once, in their order
abbrev pub BlocksAscend : Option Goals → Type 0
BlocksAscend None = Unit {0}
BlocksAscend (Some goals) = AllPairs (λ (a b : Option ℕ). block_rank a < block_rank b) goals.blocks.items

-- listed is where the node leads, each goal once, in their order
pub record AreGoals (program : NumberedProgram) (node : Node) (goals : Option Goals) : Type 0 where
  pub each : (goal : Goal) → IsGoalIn goals goal → Leads program node goal
  pub all : (goal : Goal) → Leads program node goal → IsGoalIn goals goal
  pub ascends : BlocksAscend goals

-- these are the blocks of the instance with this path
pub record GoalsHave (goals : Goals) (path : List ℕ) (blocks : List (Option ℕ)) : Type 0 where
  pub path_is : goals.path.items ≡ path
  pub blocks_are : goals.blocks.items ≡ blocks

-- the block after the call of this block
abbrev pub GoesAfter : NumberedProgram → ℕ → List ℕ → Option Goals → Type 0
GoesAfter program b path None = ⊥
GoesAfter program b path (Some goals) = GoalsHave goals (reverse path) (Some (next_of (ending_at program (function_at program path) b)) ∷ [])

-- listed is where a return of this instance leads
abbrev pub GoesBack : NumberedProgram → List ℕ → Option Goals → Type 0
GoesBack program [] goals = goals ≡ None
GoesBack program (b ∷ path) goals = GoesAfter program b path goals

-- listed is where a switch leads
pub record GoesToTargets (goals : Goals) (path : List ℕ) (targets : List (ℕ × ℕ)) (others : ℕ) : Type 0 where
  pub path_is : goals.path.items ≡ path
  pub blocks : (block : Option ℕ)
      → Contains goals.blocks.items block ↔ ((to : ℕ) × IsTarget targets others to × (block ≡ Some to))
  pub ascends : AllPairs (λ (a b : Option ℕ). block_rank a < block_rank b) goals.blocks.items
