use Rattle.std.proofs.Common.{◌≡◌, ◌++◌, ◌-◌, ◌/◌}
use Rattle.abstract_memory.specs.NextOffsets.{cells_from}
use Rattle.abstract_memory.proofs.cell.put_cells.Given as goal

abbrev pub invariant-loop-offset : goal.invariant-loop-offset
invariant-loop-offset l =
    l.cells.items ++ cells_from l.frame l.bits l.size l.members l.from ≡ l.fn.cells.items ++ cells_from l.frame l.bits l.size l.members 0

abbrev pub decreases-loop-offset : goal.decreases-loop-offset
decreases-loop-offset l = l.bits / 8 - l.from
