-- What is left to show of `marked_wider`: facts of the proof files, applied.
use Rattle.std.proofs.Common.{◌∙◌, ap, map}
use Rattle.memory_pages.specs.Slots.{slot_of, with_wider_marked, marked_kept}
use Rattle.memory_pages.proofs.SlotCells.{marked_cells}
use Rattle.memory_pages.proofs.slot.Slot.marked_wider.Goals as goal

pub returns : goal.returns
returns c =
    ap (λ byte. slot_of byte c.in_ok-marked_copies.field-0.items) c.in_ok-copy.ensures
    ∙ (ap (λ kept. slot_of c.self.inside.byte kept) (c.in_ok-marked_copies.ensures ∙ ap (λ kept. map (marked_kept c.args.than) kept) c.deref.ensures.value)
    ∙ (marked_cells c.self.inside.byte c.self.inside.cells.items c.args.than ∙ ap (λ slot. with_wider_marked slot c.args.than) c.self.view_is))
