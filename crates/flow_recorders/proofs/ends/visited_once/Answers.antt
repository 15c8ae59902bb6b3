-- What is left to show of `visited_once`.
use Rattle.flow_recorders.proofs.SpanLemmas.{once_visited}
use Rattle.flow_recorders.proofs.ends.visited_once.Goals as goal

pub returns : goal.returns
returns c = once_visited c.in_ok-counts.counts.items c.args.count c.args.i (c.in_ok-counts.ensures.items_if_clones_equal (λ y e. e))
