use Rattle.std.proofs.Common.{◌/◌, arith, append_assoc}
use Rattle.cost_table.proofs.RowsFrom.{rows_step, room_step}
use Rattle.cost_table.proofs.row_list.add_rows.Goals as goal

pub loop-left-preserved : goal.loop-left-preserved
loop-left-preserved c = (
  omega (arith, c.loop-left.invariant.0, room_step c.loop-left.left (c.loop-left.row.size / 8) (omega arith)),
  rw (c.in_ok-push.ensures.items, append_assoc) (rw (rows_step c.loop-left.row c.loop-left.left (omega arith)) at c.loop-left.invariant.1),
)
