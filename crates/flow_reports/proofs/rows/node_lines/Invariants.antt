-- What the loop keeps.
use Rattle.std.proofs.Common.{◌≡◌, take, map}
use Rattle.flow_facts.specs.Reports.{node_of}
use Rattle.flow_reports.specs.Naming.{named_node}
use Rattle.flow_reports.proofs.rows.node_lines.Given as goal

abbrev pub invariant-loop-n : goal.invariant-loop-n
invariant-loop-n l = map node_of l.lines.items ≡ map named_node (take l.n l.outline.nodes)
