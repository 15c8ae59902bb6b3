-- What the loop keeps.
use Rattle.std.proofs.Common.{◌≡◌, ◌++◌}
use Rattle.report_soundness.specs.ReportTold.{below, pair_line}
use Rattle.flow_gathering.specs.Gathering.{found_in}
use Rattle.flow_reports.proofs.pairs.tell_pairs_from.Given as goal

abbrev pub invariant-loop-b : goal.invariant-loop-b
invariant-loop-b l = l.facts.items ≡ l.fn.facts.items ++ below (pair_line l.outline (found_in l.found) l.scope l.a) l.b
