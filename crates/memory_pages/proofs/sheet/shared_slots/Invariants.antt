-- What `shared_slots` keeps: the slots so far are shared.
use Rattle.std.proofs.Common.{◌≡◌, take}
use Rattle.memory_pages.specs.Pages.{held}
use Rattle.memory_pages.proofs.sheet.shared_slots.Given as goal

abbrev pub invariant-loop-slot : goal.invariant-loop-slot
invariant-loop-slot l = held l.shared.items ≡ held (take l.slot-index l.slots)
