-- What is left to show of `drop_wider`: facts of the proof files, applied.
use Rattle.std.proofs.Common.{◌∙◌, ap, rules}
use Rattle.std.proofs.lemmas.Fn.{filter_same}
use Rattle.memory_pages.specs.Slots.{slot_of, without_wider}
use Rattle.memory_pages.proofs.SlotCells.{apart_cells}
use Rattle.memory_pages.proofs.slot.Slot.drop_wider.Goals as goal

pub returns : goal.returns
returns c =
    ap (λ kept. slot_of c.self.inside.byte kept) (filter_same _ _ _ (λ x b f' k. search rules) _ _ c.retain.ensures.filtered)
    ∙ (apart_cells c.self.inside.byte c.self.inside.cells.items c.args.than ∙ ap (λ slot. without_wider slot c.args.than) c.self.view_is)
