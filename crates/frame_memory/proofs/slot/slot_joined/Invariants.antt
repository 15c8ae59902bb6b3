-- What `slot_joined` keeps: the cells of fewer bytes are those of the join.
use Rattle.std.proofs.Common.{◌≡◌, ℕ}
use Rattle.memory_model.specs.HeldFrames.{byte_held, cell_held}
use Rattle.frame_memory.specs.FrameJoins.{join_of}
use Rattle.frame_memory.proofs.SlotJoins.{slot_so_far}
use Rattle.frame_memory.proofs.slot.slot_joined.Given as goal

abbrev pub invariant-loop-count : goal.invariant-loop-count
invariant-loop-count l = l.slot ≡ slot_so_far (byte_held ((join_of l.a l.b).bytes l.place)) (λ (size : ℕ). cell_held ((join_of l.a l.b).cells l.place size)) l.count
