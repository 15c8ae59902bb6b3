-- What `empty_frames` keeps: the frames so far are those of the entered function, or stay.
use Rattle.std.proofs.Common.{◌≡◌, take}
use Rattle.alf_check.specs.Shapes.{shapes_of}
use Rattle.memory_model.specs.HeldMemories.{entered_frames}
use Rattle.abstract_memory.proofs.frames.empty_frames.Given as goal

abbrev pub invariant-loop-at : goal.invariant-loop-at
invariant-loop-at l = l.frames ≡ entered_frames (shapes_of (take l.at l.rows)) l.func l.fn.frames
