-- What grows less from call to call of `find_cell`.
use Rattle.std.proofs.Common.{length}
use Rattle.memory_pages.proofs.slot.+find_cell.Given as goal

abbrev pub decreases-find_cell : goal.decreases-find_cell
decreases-find_cell l = length l.cells.now
