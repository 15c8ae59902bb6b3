-- What `shared_pages` keeps: the pages so far are shared.
use Rattle.std.proofs.Common.{◌≡◌, take}
use Rattle.memory_pages.specs.Pages.{pages_of}
use Rattle.memory_pages.proofs.page.shared_pages.Given as goal

abbrev pub invariant-loop-page : goal.invariant-loop-page
invariant-loop-page l = pages_of l.shared.items ≡ pages_of (take l.page-index l.pages)
