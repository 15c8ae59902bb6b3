-- What is left to show of `slot`: facts of the proof files, applied.
use Rattle.std.proofs.Common.{◌∙◌, sym, ap}
use Rattle.std.specs.Prelude.{slice_get}
use Rattle.memory_pages.specs.Pages.{pages_of}
use Rattle.memory_pages.proofs.PageLists.{get_joined}
use Rattle.memory_pages.proofs.pages.Pages.slot.Goals as goal

pub returns : goal.returns
returns g c =
    (rw c.deref.ensures.value at c.slot_in.ensures)
    ∙ (sym (get_joined g.row.WIDTH (pages_of c.self.inside.list.items) c.args.at c.self.invariant.0 c.self.invariant.1) ∙ ap (λ slots. slice_get slots c.args.at) c.self.view_is)
