-- What is left to show of `node_lines`.
use Rattle.flow_reports.proofs.Steps.{lines_more}
use Rattle.flow_reports.proofs.rows.node_lines.Goals as goal

pub loop-n-preserved : goal.loop-n-preserved
loop-n-preserved c =
    lines_more c.args.outline.now.nodes c.loop-n.lines.items c.push.new.self.items c.loop-n.n c.node.result.now c.in_ok-node_line.field-0 c.in_ok-push.ensures.items c.loop-n.invariant c.in_ok-node_line.ensures c.node.ensures
