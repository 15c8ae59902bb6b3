-- What `mix_all` keeps: stores to the cells that are left lead to the same.
use Rattle.std.proofs.Common.{length}
use Rattle.abstract_memory.proofs.Changing.{MixedSo}
use Rattle.abstract_memory.proofs.stores.mix_all.Given as goal

abbrev pub invariant-loop-cell : goal.invariant-loop-cell
invariant-loop-cell l = MixedSo l.fn.frames l.frames l.fn.cells l.rest l.size l.fn.value

abbrev pub decreases-loop-cell : goal.decreases-loop-cell
decreases-loop-cell l = length l.rest
