-- What the loop keeps.
use Rattle.std.proofs.Common.{◌≡◌, ◌*◌}
use Rattle.std.specs.Prelude.{slice_index}
use Rattle.report_soundness.specs.ReportTold.{sum_below, greatest_total, costs_of}
use Rattle.flow_gathering.specs.Gathering.{found_in}
use Rattle.flow_reports.proofs.bound.bound.Given as goal

abbrev pub invariant-loop-n : goal.invariant-loop-n
invariant-loop-n l = l.sum ≡ sum_below (λ k. slice_index (costs_of l.outline) k * greatest_total (found_in l.found) k) l.n
