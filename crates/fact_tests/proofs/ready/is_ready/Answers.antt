-- The nodes are those of the outline.
use Rattle.std.proofs.Common.{refl}
use Rattle.fact_tests.proofs.ready.is_ready.Goals as goal

pub returns-clause-limited : goal.returns-clause-limited
returns-clause-limited c is n low = c.if-not-are_limited.ensures refl n (rw (c.node_count-nodes.ensures) low)
