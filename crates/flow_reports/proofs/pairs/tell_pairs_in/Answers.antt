-- What is left to show of `tell_pairs_in`.
use Rattle.std.proofs.Common.{◌≡◌, length, arith}
use Rattle.report_soundness.specs.ReportTold.{pairs_with}
use Rattle.flow_gathering.specs.Gathering.{found_in}
use Rattle.flow_reports.proofs.Steps.{begun, told_more, told_all}
use Rattle.flow_reports.proofs.pairs.tell_pairs_in.Goals as goal

pub loop-a-init : goal.loop-a-init
loop-a-init c = begun c.args.facts.now.items (pairs_with c.args.outline.now (found_in c.args.found.now) c.args.scope)

pub loop-a-preserved : goal.loop-a-preserved
loop-a-preserved c =
    told_more c.args.facts.now.items c.loop-a.facts.items c.tell_pairs_with.new.facts.items (pairs_with c.args.outline.now (found_in c.args.found.now) c.args.scope) c.loop-a.a c.in_ok-tell_pairs_with.ensures c.loop-a.invariant

pub returns : goal.returns
returns c =
    let all : c.loop-a.a ≡ length c.args.outline.now.nodes = (let over = c.loop-a-test.false in omega arith) in
    told_all c.args.facts.now.items c.loop-a.facts.items (pairs_with c.args.outline.now (found_in c.args.found.now) c.args.scope) c.loop-a.a (length c.args.outline.now.nodes) all c.loop-a.invariant
