-- What is left to show of `new`: facts of the proof files, applied.
use Rattle.std.proofs.Common.{◌∙◌, sym, subst, ap, List}
use Rattle.memory_pages.specs.Slots.{HeldSlot, bare}
use Rattle.memory_pages.specs.Pages.{slots_on, joined, ArePages}
use Rattle.memory_pages.proofs.PageLists.{made, made_pages, made_joined}
use Rattle.memory_pages.proofs.pages.Pages.new.Goals as goal

pub invariant_of-result : goal.invariant_of-result
invariant_of-result g c = (
  c.requires,
  subst (λ (pages : List (List HeldSlot)). ArePages g.row.WIDTH pages)
      (sym (made slots_on c.new-list.result.items c.share_page.new.pages.items c.push.new.self.items c.in_ok-page.page c.in_ok-last.last g.row.WIDTH c.args.count (bare c.args.byte.now)
      c.new-list.ensures.items c.in_ok-share_page.ensures c.in_ok-push.ensures.items c.in_ok-page.ensures c.in_ok-last.ensures))
      (made_pages g.row.WIDTH c.args.count (bare c.args.byte.now) c.requires),
)

pub returns : goal.returns
returns g c =
    ap joined (made slots_on c.new-list.result.items c.share_page.new.pages.items c.push.new.self.items c.in_ok-page.page c.in_ok-last.last g.row.WIDTH c.args.count (bare c.args.byte.now)
    c.new-list.ensures.items c.in_ok-share_page.ensures c.in_ok-push.ensures.items c.in_ok-page.ensures c.in_ok-last.ensures)
    ∙ made_joined g.row.WIDTH c.args.count (bare c.args.byte.now)
