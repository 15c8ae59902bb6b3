-- The lines by which a report is read: which node is which, what it costs, and which scopes there are.
--   HasLegend graph o report   the `node` and `scope` lines of the report are those of the graph
use Rattle.std.specs.Prelude.{◌≡◌, map}
use Rattle.domain_core.specs.Outlines.{Outlined}
use Rattle.flow_facts.specs.Reports.{Reported}
use Rattle.flow_graph.specs.Numbering.{GraphParts}
use Rattle.report_soundness.specs.ReportTold.{named_nodes}

-- the outline has the names of the graph's nodes, and the report a line for each node, with its scope, its cost and its
-- name, and one for each scope
pub record HasLegend (graph : GraphParts) (o : Outlined) (report : Reported) : Type 0 where
  pub names : map (λ row. row.name.items) o.nodes ≡ graph.names
  pub nodes : report.nodes ≡ named_nodes o
  pub scopes : report.scopes ≡ o.scopes
