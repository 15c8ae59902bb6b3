-- What is left to show of `put`: facts of the proof files, applied.
use Rattle.std.proofs.Common.{◌∙◌, ap}
use Rattle.std.specs.Prelude.{slice_set}
use Rattle.memory_pages.proofs.PageLists.{map_set}
use Rattle.memory_pages.proofs.sheet.Sheet.put.Goals as goal

pub returns : goal.returns
returns c = map_set (λ slot. slot.value) c.self.inside.slots.items c.args.at c.args.slot ∙ ap (λ slots. slice_set slots c.args.at c.args.slot.value) c.self.view_is
