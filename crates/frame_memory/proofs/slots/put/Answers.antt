-- What is left to show of `put`: a slot that is there already may be put or not.
use Rattle.std.proofs.Common.{sym, refl}
use Rattle.frame_memory.proofs.SlotFrames.{set_same}
use Rattle.frame_memory.proofs.slots.put.Goals as goal

pub returns-then-is_there : goal.returns-then-is_there
returns-then-is_there c = sym (set_same c.args.slots.now c.args.place c.args.slot (c.if-is_there.ensures refl))
