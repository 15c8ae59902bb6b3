-- What `has_other` keeps: no cell of another size is kept, of the sizes so far.
use Rattle.std.proofs.Common.{◌≡◌, ◌≢◌, ℕ, true, None, ◌*◌, ◌<◌}
use Rattle.memory_pages.specs.Slots.{cell_of}
use Rattle.memory_model.specs.HeldFrames.{is_cell_size}
use Rattle.frame_memory.proofs.stored.has_other.Given as goal

abbrev pub invariant-loop-bytes : goal.invariant-loop-bytes
invariant-loop-bytes l = (width : ℕ) → is_cell_size width ≡ true → width ≢ l.size → width < 8 * l.bytes → cell_of l.slot width ≡ None
