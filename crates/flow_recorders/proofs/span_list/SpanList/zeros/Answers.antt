-- What is left to show of `zeros`.
use Rattle.flow_recorders.proofs.SpanLemmas.{zeros_only}
use Rattle.flow_recorders.proofs.span_list.SpanList.zeros.Goals as goal

pub returns-then-count-le-MOST_COUNTS : goal.returns-then-count-le-MOST_COUNTS
returns-then-count-le-MOST_COUNTS c = zeros_only c.zeros.result c.args.count c.zeros.ensures
