-- What is told of a node.
--   named_node row   its scope, its cost and its name
use Rattle.domain_core.specs.declared.outline.NodeRow.{NodeRow}
use Rattle.flow_facts.specs.Reports.{NamedNode}

-- its scope, its cost and its name
abbrev pub named_node : NodeRow → NamedNode
named_node row = record { scope = row.scope; cost = row.cost; name = row.name.items }
