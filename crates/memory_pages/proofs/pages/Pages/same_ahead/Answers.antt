-- What is left to show of `same_ahead`: facts of the proof files, applied.
use Rattle.std.proofs.Common.{◌∙◌, sym, ap, refl}
use Rattle.std.specs.Prelude.{slice_get}
use Rattle.memory_pages.specs.Pages.{pages_of}
use Rattle.memory_pages.proofs.PageLists.{same_on}
use Rattle.memory_pages.proofs.pages.Pages.same_ahead.Goals as goal

pub returns-then-are_same : goal.returns-then-are_same
returns-then-are_same g c = λ place low high.
    ap (λ slots. slice_get slots place) (sym c.self.view_is)
    ∙ (same_on g.row.WIDTH (pages_of c.self.inside.list.items) (pages_of c.other.inside.list.items) c.args.at place c.self.invariant.0 c.self.invariant.1 c.other.invariant.1 c.if-at-eq0.true
    (sym (rw c.deref.ensures.value at c.page_of-own.ensures) ∙ (c.if-are_same.ensures refl ∙ (rw c.deref-2.ensures.value at c.page_of-others.ensures))) low high
    ∙ ap (λ slots. slice_get slots place) c.other.view_is)
