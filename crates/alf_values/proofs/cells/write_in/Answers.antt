-- What is left to show of `write_in`: the frame has the slots that were written, and the others are as they were.
use Rattle.std.proofs.Common.{◌≡◌, ◌∙◌, ap, refl, ◌/◌, None, slice_index_or}
use Rattle.std.specs.Prelude.{slice_get}
use Rattle.std.proofs.lemmas.Option.{slice_get-get_or, slice_get_past}
use Rattle.alf_values.specs.Slots.{written}
use Rattle.alf_values.proofs.Writes.{get_set_other}
use Rattle.alf_values.proofs.Events.{filled, same_shapes}
use Rattle.alf_values.proofs.cells.write_in.Goals as goal

pub returns-then-number-frames-clause-here : goal.returns-then-number-frames-clause-here
returns-then-number-frames-clause-here c = λ frame known.
    let own = slice_index_or c.args.frames.now c.args.cell.frame c.index-frames-number.result in
    let is : c.write.new.slots ≡ written c.args.mark c.args.value own.slots.items c.args.cell.offset 0 (c.args.size / 8) =
    c.write.ensures ∙ ap (λ items. written c.args.mark c.args.value items c.args.cell.offset 0 (c.args.size / 8)) c.deref_mut.ensures.value in
    filled c.args.frames.now c.args.cell.frame own frame c.args.mark c.args.value c.args.cell.offset (c.args.size / 8) c.write.new.slots
    (slice_get-get_or c.args.frames.now c.args.cell.frame c.index-frames-number.result c.if-number-frames.true) is known

pub returns-then-number-frames-clause-others : goal.returns-then-number-frames-clause-others
returns-then-number-frames-clause-others c = λ other differ. get_set_other c.args.frames.now c.args.cell.frame other _ differ

pub returns-then-number-frames-clause-shapes : goal.returns-then-number-frames-clause-shapes
returns-then-number-frames-clause-shapes c =
    same_shapes c.args.frames.now c.args.cell.frame (slice_index_or c.args.frames.now c.args.cell.frame c.index-frames-number.result) _
    (slice_get-get_or c.args.frames.now c.args.cell.frame c.index-frames-number.result c.if-number-frames.true) refl

pub returns-else-number-frames-clause-here : goal.returns-else-number-frames-clause-here
returns-else-number-frames-clause-here c = λ frame known.
    let none : slice_get c.args.frames.now c.args.cell.frame ≡ None = slice_get_past c.args.frames.now c.args.cell.frame c.if-number-frames.false in
    cc
