-- What `share_page` keeps: the page was added so many times.
use Rattle.std.proofs.Common.{◌≡◌, ◌++◌, replicate}
use Rattle.memory_pages.specs.Pages.{pages_of, slots_on}
use Rattle.memory_pages.proofs.page.share_page.Given as goal

abbrev pub invariant-loop-number : goal.invariant-loop-number
invariant-loop-number l = pages_of l.pages.items ≡ pages_of l.initial.pages.items ++ replicate l._number (slots_on l.page)
