-- What `copied_frames` keeps: the copies so far are the frames so far.
use Rattle.std.proofs.Common.{◌≡◌, take}
use Rattle.abstract_memory.proofs.frames.copied_frames.Given as goal

abbrev pub invariant-loop-slots : goal.invariant-loop-slots
invariant-loop-slots l = l.copy.items ≡ take l.slots-index l.frames
