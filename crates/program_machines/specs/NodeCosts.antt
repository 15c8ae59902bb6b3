-- What the nodes of a program's graph cost.
--   place_cost costs function block   block b of the function costs what the table says, and an entry nothing
--   node_cost program costs node      what a node costs
--   HasCosts program graph costs o    the outline says for each node what it costs
use Rattle.std.specs.Prelude.{◌≡◌, ℕ, map, Option, None, Some}
use Rattle.alf_check.specs.CheckedPrograms.{NumberedProgram}
use Rattle.flow_graph.specs.Nodes.{Node, function_at}
use Rattle.flow_graph.specs.Numbering.{GraphParts}
use Rattle.domain_core.specs.Outlines.{Outlined}
use Rattle.cost_table.specs.CostTables.{CostTable, cost_at}

-- block b of the function costs what the table says, and an entry nothing
abbrev pub place_cost : CostTable → ℕ → Option ℕ → ℕ
place_cost costs function None = 0
place_cost costs function (Some b) = cost_at costs function b

-- what a node costs
abbrev pub node_cost : NumberedProgram → CostTable → Node → ℕ
node_cost program costs node = place_cost costs (function_at program node.path) node.block

-- the outline says for each node what it costs
abbrev pub HasCosts : NumberedProgram → GraphParts → CostTable → Outlined → Type 0
HasCosts program graph costs o = map (λ row. row.cost) o.nodes ≡ map (node_cost program costs) graph.nodes
