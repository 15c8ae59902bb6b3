-- What the loop keeps.
use Rattle.std.proofs.Common.{◌≡◌, ◌++◌}
use Rattle.report_soundness.specs.ReportTold.{below, pairs_with}
use Rattle.flow_gathering.specs.Gathering.{found_in}
use Rattle.flow_reports.proofs.pairs.tell_pairs_in.Given as goal

abbrev pub invariant-loop-a : goal.invariant-loop-a
invariant-loop-a l = l.facts.items ≡ l.fn.facts.items ++ below (pairs_with l.outline (found_in l.found) l.scope) l.a
