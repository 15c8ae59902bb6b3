-- What `has_wider` keeps: no cell of more bits is kept, of the sizes so far.
use Rattle.std.proofs.Common.{◌≡◌, ℕ, true, None, ◌*◌, ◌<◌}
use Rattle.memory_pages.specs.Slots.{cell_of}
use Rattle.memory_model.specs.HeldFrames.{is_cell_size}
use Rattle.frame_memory.proofs.overlapping.has_wider.Given as goal

abbrev pub invariant-loop-bytes : goal.invariant-loop-bytes
invariant-loop-bytes l = (width : ℕ) → is_cell_size width ≡ true → l.than < width → width < 8 * l.bytes → cell_of l.slot width ≡ None
