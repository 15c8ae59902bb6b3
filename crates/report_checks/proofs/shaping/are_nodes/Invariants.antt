-- The lines so far are those of the nodes.
use Rattle.std.proofs.Common.{◌≡◌, map, take}
use Rattle.flow_facts.specs.Reports.{node_of}
use Rattle.report_soundness.specs.ReportTold.{named_nodes}
use Rattle.report_checks.proofs.shaping.are_nodes.Given as goal

abbrev pub invariant-loop-n : goal.invariant-loop-n
invariant-loop-n l = take l.n (map node_of l.lines) ≡ take l.n (named_nodes l.outline)
