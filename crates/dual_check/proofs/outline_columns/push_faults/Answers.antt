-- One node more.
use Rattle.std.proofs.Common.{false, get_or}
use Rattle.dual_check.proofs.Made.{fault_more}
use Rattle.dual_check.proofs.outline_columns.push_faults.Goals as goal

pub loop-node-preserved : goal.loop-node-preserved
loop-node-preserved c =
    fault_more c.args.out.now.items c.loop-node.out.items c.push_fault.new.out.items c.args.end c.loop-node.node (λ n. get_or c.args.marks.now n false)
    c.is_marked.result c.is_marked.ensures c.loop-node.invariant c.in_ok-push_fault.ensures
