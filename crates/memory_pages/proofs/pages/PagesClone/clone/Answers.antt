-- What is left to show of `clone`: facts of the proof files, applied.
use Rattle.std.proofs.Common.{◌≡◌, ◌∙◌, sym, subst, ap, List}
use Rattle.memory_pages.specs.Slots.{HeldSlot}
use Rattle.memory_pages.specs.Pages.{pages_of, joined, ArePages}
use Rattle.memory_pages.proofs.pages.PagesClone.clone.Goals as goal

pub invariant_of-result : goal.invariant_of-result
invariant_of-result g c =
    let same : pages_of c.in_ok-list.list.items ≡ pages_of c.self.inside.list.items = c.in_ok-list.ensures ∙ ap pages_of c.deref.ensures.value in
    (c.self.invariant.0, subst (λ (pages : List (List HeldSlot)). ArePages g.row.WIDTH pages) (sym same) c.self.invariant.1)

pub returns : goal.returns
returns g c =
    let same : pages_of c.in_ok-list.list.items ≡ pages_of c.self.inside.list.items = c.in_ok-list.ensures ∙ ap pages_of c.deref.ensures.value in
    record { cases = sym (ap joined same ∙ c.self.view_is) }
