-- What `load_cells` keeps: loads of the cells that are left lead to the same.
use Rattle.std.proofs.Common.{length}
use Rattle.abstract_memory.proofs.Loading.{LoadedSo}
use Rattle.abstract_memory.proofs.loads.load_cells.Given as goal

abbrev pub invariant-loop-cell : goal.invariant-loop-cell
invariant-loop-cell l = LoadedSo l.fn.frames l.fn.cells l.rest l.size l.fn.before l.loaded

abbrev pub decreases-loop-cell : goal.decreases-loop-cell
decreases-loop-cell l = length l.rest
