-- Outlines that differ in what their nodes cost.
--   IsPricedAs old new    the second is the first with other costs
--   ArePaid graph costs k nodes   the first k nodes have what the graph's nodes cost
use Rattle.std.specs.Prelude.{slice_index}
use Rattle.std.proofs.Common.{◌≡◌, ◌<◌, ℕ, List, map, Some, slice_get}
use Rattle.alf_check.specs.CheckedPrograms.{NumberedProgram}
use Rattle.flow_graph.specs.Nodes.{Node}
use Rattle.flow_graph.specs.Numbering.{GraphParts, IsGraph}
use Rattle.cost_table.specs.CostTables.{CostTable}
use Rattle.program_machines.specs.NodeCosts.{node_cost}
use Rattle.domain_core.specs.declared.outline.NodeRow.{NodeRow}
use Rattle.domain_core.specs.Outlines.{Outlined}

-- the second outline is the first with other costs
pub record IsPricedAs (old new : Outlined) : Type 0 where
  pub edges : new.edges ≡ old.edges
  pub own : map (λ row. row.scope) new.nodes ≡ map (λ row. row.scope) old.nodes
  pub ranks : map (λ row. row.rank) new.nodes ≡ map (λ row. row.rank) old.nodes
  pub names : map (λ row. row.name) new.nodes ≡ map (λ row. row.name) old.nodes
  pub scopes : new.scopes ≡ old.scopes
  pub notes : new.notes ≡ old.notes

-- ---- nodes that have their costs

-- the first k nodes have what the graph's nodes cost
abbrev pub ArePaid : GraphParts → CostTable → ℕ → List NodeRow → Type 0
ArePaid graph costs k nodes = (program : NumberedProgram) (node : Node) (n : ℕ) → IsGraph program graph → n < k → slice_get graph.nodes n ≡ Some node → slice_index (map (λ row. row.cost) nodes) n ≡ node_cost program costs node
