-- What is left to show of `put_in`: facts of the proof files, applied.
use Rattle.std.proofs.Common.{◌∙◌, sym, ap}
use Rattle.std.specs.Prelude.{slice_set}
use Rattle.std.proofs.lemmas.Result.{on_ok_weaker, on_err_weaker}
use Rattle.memory_pages.specs.Pages.{pages_of, slots_on}
use Rattle.memory_pages.proofs.PageLists.{page_is, map_set, set_same}
use Rattle.memory_pages.proofs.page.put_in.Goals as goal

pub returns-clause-put : goal.returns-clause-put
returns-clause-put c = on_ok_weaker c.put_on.result (λ put.
    map_set slots_on c.args.pages.now c.args.number c.put_on.new.page
    ∙ ap (λ page. slice_set (pages_of c.args.pages.now) c.args.number page)
    (put ∙ ap (λ page. slice_set page c.args.at c.args.slot.value) (sym (page_is slots_on c.args.pages.now c.args.number c.index-pages-number.result c.requires.page))))
    c.put_on.ensures.put

pub returns-clause-refused : goal.returns-clause-refused
returns-clause-refused c = on_err_weaker c.put_on.result (λ same.
    set_same slots_on c.args.pages.now c.args.number c.put_on.new.page c.index-pages-number.result c.requires.page same)
    c.put_on.ensures.refused
