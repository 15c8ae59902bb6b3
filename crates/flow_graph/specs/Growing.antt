-- How a search for nodes goes on: nodes that were found, in their order, and those of them that it has yet to go on
-- from.
--   IsGrown nodes pending New nodes' pending'   the nodes grew by the new ones, and the search has yet to go on from those that it did not have
--   Overflows nodes New       these nodes and the new ones are more than a graph may have
--   IsSearched program nodes pending   all nodes are kept, and where each leads is among them, if the search is not to go on from it
use Rattle.std.specs.Prelude.{◌≡◌, ◌≢◌, ◌<◌, ◌≤◌, ◌+◌, List, length, ◌⊎◌, Contains, All, AllPairs, Some}
use Rattle.alf_check.specs.CheckedPrograms.{NumberedProgram}
use Rattle.flow_graph.specs.Nodes.{Node, Leads, IsKeptNode, first_node}
use Rattle.flow_graph.specs.Numbering.{IsBefore, most_nodes}

-- the nodes grew by the new ones, and the search has yet to go on from those that it did not have
pub record IsGrown (nodes pending : List Node) (New : Node → Type 0) (more waiting : List Node) : Type 0 where
  pub ascends : AllPairs IsBefore more
  pub few : length more ≤ most_nodes
  pub still : (n : Node) → Contains nodes n → Contains more n
  pub new : (n : Node) → New n → Contains more n
  pub only : (n : Node) → Contains more n → Contains nodes n ⊎ New n
  pub waits : (n : Node) → Contains more n → Contains nodes n ⊎ Contains waiting n
  pub still_waits : (n : Node) → Contains pending n → Contains waiting n
  pub waits_only : (n : Node) → Contains waiting n → Contains pending n ⊎ New n
  pub longer : length nodes ≤ length more
  pub balance : length waiting + length nodes ≡ length pending + length more

-- these nodes and the new ones are more than a graph may have
pub record Overflows (nodes : List Node) (New : Node → Type 0) : Type 0 where
  pub all : List Node
  pub apart : AllPairs (λ (a b : Node). a ≢ b) all
  pub each : All (λ (n : Node). Contains nodes n ⊎ New n) all
  pub many : most_nodes < length all

-- all nodes are kept, and where each leads is among them, if the search is not to go on from it
pub record IsSearched (program : NumberedProgram) (nodes pending : List Node) : Type 0 where
  pub ascends : AllPairs IsBefore nodes
  pub few : length nodes ≤ most_nodes
  pub kept : All (IsKeptNode program) nodes
  pub waiting : All (IsKeptNode program) pending
  pub first : Contains nodes first_node
  pub closed : (n : Node) → Contains nodes n
      → Contains pending n ⊎ ((next : Node) → Leads program n (Some next) → Contains nodes next)
