-- What is left to show of `narrow_copied`.
use Rattle.std.proofs.Common.{refl, length}
use Rattle.flow_recorders.proofs.SpanLemmas.{zeros_kept}
use Rattle.flow_recorders.proofs.ends.narrow_copied.Goals as goal

pub returns-then-are_zeros-clause-same : goal.returns-then-are_zeros-clause-same
returns-then-are_zeros-clause-same c = zeros_kept (length c.args.counts.now) c.args.counts.now c.args.counts.now refl refl (c.are_zeros.ensures.0 c.if-are_zeros.true)
