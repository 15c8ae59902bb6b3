-- What `copied_cells` keeps: the copies so far are the cells so far.
use Rattle.std.proofs.Common.{◌≡◌, take}
use Rattle.memory_pages.proofs.slot.copied_cells.Given as goal

abbrev pub invariant-loop-kept : goal.invariant-loop-kept
invariant-loop-kept l = l.copy.items ≡ take l.kept-index l.cells
