-- What the loop keeps.
use Rattle.std.proofs.Common.{◌≡◌, ◌++◌}
use Rattle.report_soundness.specs.ReportTold.{below, dead_lines}
use Rattle.flow_gathering.specs.Gathering.{found_in}
use Rattle.flow_reports.proofs.totals.tell_deads.Given as goal

abbrev pub invariant-loop-n : goal.invariant-loop-n
invariant-loop-n l = l.facts.items ≡ l.fn.facts.items ++ below (dead_lines (found_in l.found)) l.n
