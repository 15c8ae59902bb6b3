-- What is left to show of `tell_counts_in`.
use Rattle.std.proofs.Common.{◌≡◌, length, arith}
use Rattle.report_soundness.specs.ReportTold.{count_line}
use Rattle.flow_gathering.specs.Gathering.{found_in}
use Rattle.flow_reports.proofs.Steps.{begun, told_more, told_all}
use Rattle.flow_reports.proofs.counts.tell_counts_in.Goals as goal

pub loop-n-init : goal.loop-n-init
loop-n-init c = begun c.args.facts.now.items (count_line c.args.outline.now (found_in c.args.found.now) c.args.scope)

pub loop-n-preserved : goal.loop-n-preserved
loop-n-preserved c =
    told_more c.args.facts.now.items c.loop-n.facts.items c.tell_count.new.facts.items (count_line c.args.outline.now (found_in c.args.found.now) c.args.scope) c.loop-n.n c.in_ok-tell_count.ensures c.loop-n.invariant

pub returns : goal.returns
returns c =
    let all : c.loop-n.n ≡ length c.args.outline.now.nodes = (let over = c.loop-n-test.false in omega arith) in
    told_all c.args.facts.now.items c.loop-n.facts.items (count_line c.args.outline.now (found_in c.args.found.now) c.args.scope) c.loop-n.n (length c.args.outline.now.nodes) all c.loop-n.invariant
