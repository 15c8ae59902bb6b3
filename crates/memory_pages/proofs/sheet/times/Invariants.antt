-- What `times` keeps: so many slots were made.
use Rattle.std.proofs.Common.{◌≡◌, replicate}
use Rattle.memory_pages.specs.Pages.{held}
use Rattle.memory_pages.proofs.sheet.times.Given as goal

abbrev pub invariant-loop-number : goal.invariant-loop-number
invariant-loop-number l = held l.slots.items ≡ replicate l._number l.slot.value
