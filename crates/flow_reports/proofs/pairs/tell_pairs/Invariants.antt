-- What the loop keeps.
use Rattle.std.proofs.Common.{◌≡◌, ◌++◌}
use Rattle.report_soundness.specs.ReportTold.{below, pair_lines}
use Rattle.flow_gathering.specs.Gathering.{found_in}
use Rattle.flow_reports.proofs.pairs.tell_pairs.Given as goal

abbrev pub invariant-loop-s : goal.invariant-loop-s
invariant-loop-s l = l.facts.items ≡ l.fn.facts.items ++ below (pair_lines l.outline (found_in l.found)) l.s
