-- What is left to show of `tell_deads`.
use Rattle.std.proofs.Common.{◌≡◌, length, arith}
use Rattle.report_soundness.specs.ReportTold.{dead_lines}
use Rattle.flow_gathering.specs.Gathering.{found_in}
use Rattle.flow_reports.proofs.Steps.{begun, told_more, told_all}
use Rattle.flow_reports.proofs.totals.tell_deads.Goals as goal

pub loop-n-init : goal.loop-n-init
loop-n-init c = begun c.args.facts.now.items (dead_lines (found_in c.args.found.now))

pub loop-n-preserved : goal.loop-n-preserved
loop-n-preserved c =
    told_more c.args.facts.now.items c.loop-n.facts.items c.tell_dead.new.facts.items (dead_lines (found_in c.args.found.now)) c.loop-n.n c.in_ok-tell_dead.ensures c.loop-n.invariant

pub returns : goal.returns
returns c =
    let all : c.loop-n.n ≡ length c.args.outline.now.nodes = (let over = c.loop-n-test.false in omega arith) in
    told_all c.args.facts.now.items c.loop-n.facts.items (dead_lines (found_in c.args.found.now)) c.loop-n.n (length c.args.outline.now.nodes) all c.loop-n.invariant
