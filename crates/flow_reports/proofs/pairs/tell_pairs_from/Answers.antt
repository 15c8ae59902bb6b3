-- What is left to show of `tell_pairs_from`.
use Rattle.std.proofs.Common.{◌≡◌, length, arith}
use Rattle.report_soundness.specs.ReportTold.{pair_line}
use Rattle.flow_gathering.specs.Gathering.{found_in}
use Rattle.flow_reports.proofs.Steps.{begun, told_more, told_all}
use Rattle.flow_reports.proofs.pairs.tell_pairs_from.Goals as goal

pub loop-b-init : goal.loop-b-init
loop-b-init c = begun c.args.facts.now.items (pair_line c.args.outline.now (found_in c.args.found.now) c.args.scope c.args.a)

pub loop-b-preserved : goal.loop-b-preserved
loop-b-preserved c =
    told_more c.args.facts.now.items c.loop-b.facts.items c.tell_pair.new.facts.items (pair_line c.args.outline.now (found_in c.args.found.now) c.args.scope c.args.a) c.loop-b.b c.in_ok-tell_pair.ensures c.loop-b.invariant

pub returns : goal.returns
returns c =
    let all : c.loop-b.b ≡ length c.args.outline.now.nodes = (let over = c.loop-b-test.false in omega arith) in
    told_all c.args.facts.now.items c.loop-b.facts.items (pair_line c.args.outline.now (found_in c.args.found.now) c.args.scope c.args.a) c.loop-b.b (length c.args.outline.now.nodes) all c.loop-b.invariant
