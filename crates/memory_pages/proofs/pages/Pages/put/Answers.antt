-- What is left to show of `put`: facts of the proof files, applied.
use Rattle.std.proofs.Common.{◌≡◌, ℕ, ◌∙◌, sym, subst, ap, List, ◌<◌, ◌/◌, ◌%◌, length}
use Rattle.std.specs.Prelude.{slice_set}
use Rattle.std.specs.Vec.{with_items}
use Rattle.std.proofs.lemmas.List.{with_items_is, length-map}
use Rattle.std.proofs.lemmas.Result.{on_ok_weaker}
use Rattle.memory_pages.specs.Slots.{HeldSlot}
use Rattle.memory_pages.specs.Pages.{pages_of, slots_on, joined, ArePages}
use Rattle.memory_pages.proofs.PageLists.{on_page, in_page, joined_set, either_pages}
use Rattle.memory_pages.proofs.pages.Pages.put.Goals as goal

pub put_in-requires-clause-page : goal.put_in-requires-clause-page
put_in-requires-clause-page g c =
    let all = pages_of c.self.inside.list.items in
    let low : c.args.at < length (joined all) = subst (λ (slots : List HeldSlot). c.args.at < length slots) (sym c.self.view_is) c.requires in
    let many : length all ≡ length c.deref_mut.result.now = length-map c.self.inside.list.items slots_on ∙ ap length (sym c.deref_mut.ensures.value) in
    subst (λ (n : ℕ). c.args.at / g.row.WIDTH < n) many (on_page g.row.WIDTH all c.args.at c.self.invariant.0 c.self.invariant.1 low)

pub put_in-requires-clause-slot : goal.put_in-requires-clause-slot
put_in-requires-clause-slot g c =
    let all = pages_of c.self.inside.list.items in
    let low : c.args.at < length (joined all) = subst (λ (slots : List HeldSlot). c.args.at < length slots) (sym c.self.view_is) c.requires in
    rw c.deref_mut.ensures.value (in_page g.row.WIDTH all c.args.at c.self.invariant.0 c.self.invariant.1 low)

pub invariant_of-self : goal.invariant_of-self
invariant_of-self g c =
    let items : (with_items c.self.inside.list c.put_in.new.pages).items ≡ c.put_in.new.pages =
    with_items_is c.self.inside.list c.put_in.new.pages (c.put_in.auto.pages ∙ c.deref_mut.ensures.len) in (
      c.self.invariant.0,
      subst (λ (pages : List (List HeldSlot)). ArePages g.row.WIDTH pages) (sym (ap pages_of items))
          (either_pages g.row.WIDTH c.put_in.result (pages_of c.self.inside.list.items) (pages_of c.put_in.new.pages) (c.args.at / g.row.WIDTH) (c.args.at % g.row.WIDTH) c.args.slot
          (rw (c.deref_mut.ensures.value, c.in_ok-slot.ensures) at c.put_in.ensures.put) (rw c.deref_mut.ensures.value at c.put_in.ensures.refused) c.self.invariant.1),
    )

pub returns : goal.returns
returns g c =
    let items : (with_items c.self.inside.list c.put_in.new.pages).items ≡ c.put_in.new.pages =
    with_items_is c.self.inside.list c.put_in.new.pages (c.put_in.auto.pages ∙ c.deref_mut.ensures.len) in
    on_ok_weaker c.put_in.result (λ put.
    ap joined (ap pages_of items ∙ put)
    ∙ (joined_set g.row.WIDTH (pages_of c.self.inside.list.items) c.args.at c.args.slot c.self.invariant.0 c.self.invariant.1 ∙ ap (λ slots. slice_set slots c.args.at c.args.slot) c.self.view_is))
    (rw (c.deref_mut.ensures.value, c.in_ok-slot.ensures) at c.put_in.ensures.put)
