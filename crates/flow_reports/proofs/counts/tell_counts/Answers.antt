-- What is left to show of `tell_counts`.
use Rattle.std.proofs.Common.{◌≡◌, length, arith}
use Rattle.report_soundness.specs.ReportTold.{count_lines}
use Rattle.flow_gathering.specs.Gathering.{found_in}
use Rattle.flow_reports.proofs.Steps.{begun, told_more, told_all}
use Rattle.flow_reports.proofs.counts.tell_counts.Goals as goal

pub loop-s-init : goal.loop-s-init
loop-s-init c = begun c.args.facts.now.items (count_lines c.args.outline.now (found_in c.args.found.now))

pub loop-s-preserved : goal.loop-s-preserved
loop-s-preserved c =
    told_more c.args.facts.now.items c.loop-s.facts.items c.tell_counts_in.new.facts.items (count_lines c.args.outline.now (found_in c.args.found.now)) c.loop-s.s c.in_ok-tell_counts_in.ensures c.loop-s.invariant

pub returns : goal.returns
returns c =
    let all : c.loop-s.s ≡ length c.args.outline.now.scopes = (let over = c.loop-s-test.false in omega arith) in
    told_all c.args.facts.now.items c.loop-s.facts.items (count_lines c.args.outline.now (found_in c.args.found.now)) c.loop-s.s (length c.args.outline.now.scopes) all c.loop-s.invariant
