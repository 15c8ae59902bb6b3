-- What is left to show of `keep`: facts of the proof files, applied.
use Rattle.std.proofs.Common.{◌∙◌, ap, rules, ◌++◌, ◌∷◌, []}
use Rattle.std.proofs.lemmas.Fn.{filter_same}
use Rattle.std.proofs.lemmas.Result.{on_ok_weaker}
use Rattle.memory_pages.specs.Slots.{SizedCell, slot_of, with_cell}
use Rattle.memory_pages.proofs.SlotCells.{kept_cell}
use Rattle.memory_pages.proofs.slot.Slot.keep.Goals as goal

pub returns : goal.returns
returns c = on_ok_weaker c.push_kept.result (λ pushed.
    let kept : SizedCell = record { size = c.args.size; cell = c.args.cell } in
    ap (λ cells. slot_of c.self.inside.byte cells) (pushed ∙ ap (λ cells. cells ++ kept ∷ []) (filter_same _ _ _ (λ x b f' k. search rules) _ _ c.retain.ensures.filtered))
    ∙ (kept_cell c.self.inside.byte c.self.inside.cells.items c.args.size c.args.cell ∙ ap (λ slot. with_cell slot c.args.size c.args.cell) c.self.view_is))
    (rw c.of.ensures at c.push_kept.ensures)
