-- What `marked_copies` keeps: the copies so far are those of the cells so far.
use Rattle.std.proofs.Common.{◌≡◌, map, take}
use Rattle.memory_pages.specs.Slots.{marked_kept}
use Rattle.memory_pages.proofs.slot.marked_copies.Given as goal

abbrev pub invariant-loop-kept : goal.invariant-loop-kept
invariant-loop-kept l = l.copy.items ≡ map (marked_kept l.than) (take l.kept-index l.cells)
