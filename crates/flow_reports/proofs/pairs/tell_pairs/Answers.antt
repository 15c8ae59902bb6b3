-- What is left to show of `tell_pairs`.
use Rattle.std.proofs.Common.{◌≡◌, length, arith}
use Rattle.report_soundness.specs.ReportTold.{pair_lines}
use Rattle.flow_gathering.specs.Gathering.{found_in}
use Rattle.flow_reports.proofs.Steps.{begun, told_more, told_all}
use Rattle.flow_reports.proofs.pairs.tell_pairs.Goals as goal

pub loop-s-init : goal.loop-s-init
loop-s-init c = begun c.args.facts.now.items (pair_lines c.args.outline.now (found_in c.args.found.now))

pub loop-s-preserved : goal.loop-s-preserved
loop-s-preserved c =
    told_more c.args.facts.now.items c.loop-s.facts.items c.tell_pairs_in.new.facts.items (pair_lines c.args.outline.now (found_in c.args.found.now)) c.loop-s.s c.in_ok-tell_pairs_in.ensures c.loop-s.invariant

pub returns : goal.returns
returns c =
    let all : c.loop-s.s ≡ length c.args.outline.now.scopes = (let over = c.loop-s-test.false in omega arith) in
    told_all c.args.facts.now.items c.loop-s.facts.items (pair_lines c.args.outline.now (found_in c.args.found.now)) c.loop-s.s (length c.args.outline.now.scopes) all c.loop-s.invariant
