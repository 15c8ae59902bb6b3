-- What is left to show of `slot_joined`: facts of the proof files, applied.
use Rattle.std.proofs.Common.{◌≡◌, ◌∙◌, ap, ℕ, suc, ◌+◌, ◌*◌, arith}
use Rattle.memory_pages.specs.Slots.{HeldSlot}
use Rattle.memory_model.specs.HeldFrames.{byte_held, cell_held}
use Rattle.frame_memory.specs.FrameJoins.{join_of, with_held}
use Rattle.frame_memory.proofs.SlotJoins.{slot_so_far, kept_more}
use Rattle.frame_memory.proofs.slot.slot_joined.Goals as goal

pub loop-count-preserved : goal.loop-count-preserved
loop-count-preserved c =
    let byte = byte_held ((join_of c.args.a.now c.args.b.now).bytes c.args.place) in
    let cells = λ (size : ℕ). cell_held ((join_of c.args.a.now c.args.b.now).cells c.args.place size) in
    let next : suc c.loop-count.count ≡ c.loop-count.count + 1 = omega arith in
    c.in_ok-keep_joined.ensures
    ∙ (ap (λ (slot : HeldSlot). with_held slot (8 * c.loop-count.count) (cells (8 * c.loop-count.count))) c.loop-count.invariant
    ∙ (kept_more byte cells c.loop-count.count ∙ ap (slot_so_far byte cells) next))
