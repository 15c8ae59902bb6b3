-- What is left to show of `put_bare`: a slot that is there already may be put or not.
use Rattle.std.proofs.Common.{sym, refl}
use Rattle.memory_pages.specs.Slots.{bare}
use Rattle.frame_memory.proofs.SlotFrames.{set_same}
use Rattle.frame_memory.proofs.slots.put_bare.Goals as goal

pub returns-then-is_bare : goal.returns-then-is_bare
returns-then-is_bare c = sym (set_same c.args.slots.now c.args.place (bare c.args.byte.now) (c.if-is_bare.ensures refl))
