-- What grows less from call to call of `same_cells`.
use Rattle.std.proofs.Common.{length}
use Rattle.memory_pages.proofs.slot.+same_cells.Given as goal

abbrev pub decreases-same_cells : goal.decreases-same_cells
decreases-same_cells l = length l.a.now
