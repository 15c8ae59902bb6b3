-- What grows less from call to call of `same_slots`.
use Rattle.std.proofs.Common.{length}
use Rattle.memory_pages.proofs.sheet.+same_slots.Given as goal

abbrev pub decreases-same_slots : goal.decreases-same_slots
decreases-same_slots l = length l.a.now
