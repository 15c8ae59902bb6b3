use Rattle.alf_ops.proofs.NamedOperators.{told_at}
use Rattle.alf_ops.proofs.table.spelling.Goals as goal

pub returns : goal.returns
returns c = told_at c.rows.result.now c.place.result _ c.args.op c.rows.ensures.order c.rows.ensures.told c.place.ensures.row
