-- What the loop keeps.
use Rattle.std.proofs.Common.{◌≡◌, ◌++◌}
use Rattle.report_soundness.specs.ReportTold.{below, count_lines}
use Rattle.flow_gathering.specs.Gathering.{found_in}
use Rattle.flow_reports.proofs.counts.tell_counts.Given as goal

abbrev pub invariant-loop-s : goal.invariant-loop-s
invariant-loop-s l = l.facts.items ≡ l.fn.facts.items ++ below (count_lines l.outline (found_in l.found)) l.s
