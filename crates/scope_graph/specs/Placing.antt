-- Where the nodes of a graph stand.
--   place_of node   what a node is for scopes: its call path and its block
--   plan_of graph   the graph, as scopes see it
use Rattle.std.specs.Prelude.{map}
use Rattle.flow_graph.specs.Nodes.{Node}
use Rattle.flow_graph.specs.Numbering.{GraphParts}
use Rattle.domain_core.specs.Scopes.{Place, Plan}

-- what a node is for scopes
abbrev pub place_of : Node → Place
place_of node = record { path = node.path; block = node.block }

-- the graph, as scopes see it
abbrev pub plan_of : GraphParts → Plan
plan_of graph = record { edges = graph.edges; places = map place_of graph.nodes }
