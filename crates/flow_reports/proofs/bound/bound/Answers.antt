-- What is left to show of `bound`.
use Rattle.std.proofs.Common.{◌*◌, length, arith}
use Rattle.std.specs.Prelude.{slice_index}
use Rattle.report_soundness.specs.ReportTold.{greatest_total, costs_of}
use Rattle.flow_gathering.specs.Gathering.{found_in}
use Rattle.flow_reports.proofs.Steps.{sum_part}
use Rattle.flow_reports.proofs.bound.bound.Goals as goal

pub overflow_add-sum : goal.overflow_add-sum
overflow_add-sum c =
    let part = sum_part (λ k. slice_index (costs_of c.args.outline.now) k * greatest_total (found_in c.args.found.now) k) c.loop-n.n (length c.args.outline.now.nodes)
    (let low = c.loop-n-test.true in let end = c.node_count-n-end.ensures in omega (arith, low, end)) in
    let so_far = c.loop-n.invariant in
    let more = c.most_cost-sum.ensures in
    let room = c.requires.room in
    omega (arith, part, so_far, more, room)
